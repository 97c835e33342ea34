mod Changes
mod Takes
mod Running
mod StepColumns
mod Runs
mod StepBooking
mod Verdicts
