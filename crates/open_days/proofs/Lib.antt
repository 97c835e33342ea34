mod OpenDays
