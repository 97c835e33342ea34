-- A journal in words. A letter and a digit are their ASCII numbers; each word begins with a space.
use Rattle.std.specs.Prelude.{ℕ, ◌+◌, ◌/◌, ◌%◌, cond, List, [], ◌∷◌, ◌++◌, eqb}
use Rattle.rules.specs.Header.{u16_at, u32_at}
use Rattle.rules.specs.Fields.{submit_kind, cancel_kind, day_limits_kind, proposal_kind, default_kind, close_out_kind}
use Rattle.rules.specs.Text.{space, newline, decimal}
use Rattle.listing_numbers.specs.Numbers.{time_text, price_text, contract_text}
use Rattle.rules.specs.declared.field.Field.{Field}
use Rattle.rules.specs.declared.field.Field.TheVariants.{LetterV, LetterJ, LetterR, Version, FirstYear, StartDay, Members, HolidayCount, Holiday, Limit}
use Rattle.rules.specs.declared.field.Field.TheVariants.{Kind, Time, Member, Contract, Side, OrderKind, Price, Lots, Order, Low, High, Legs, Ratio}
use Rattle.listing_words.specs.declared.field.Quantity.{Quantity}
use Rattle.listing_words.specs.declared.field.Quantity.TheVariants.{Letter, Number, StartDayNumber, HolidayNumber, KindNumber, SideNumber, OrderKindNumber, Seconds, ContractNumber, Kurus}
use Rattle.listing_words.specs.declared.field.Range.{Range}
use Rattle.listing_words.specs.declared.field.Verdict.{Verdict}
use Rattle.listing_words.specs.declared.field.Verdict.TheVariants.{Passes, Cut, OutOfRange, NoBusinessDay, OnStartDay}
use Rattle.rules.specs.Fields.{width_of, number_at}
use Rattle.listing_words.specs.Fields.{fields_in, header_shape, record_shape, quantity_of, range_of, within, verdict_of, passes, fault_place}

-- ---- names
abbrev pub name_of : Field → List ℕ
name_of LetterV = 32 ∷ 108 ∷ 101 ∷ 116 ∷ 116 ∷ 101 ∷ 114 ∷ []
name_of LetterJ = 32 ∷ 108 ∷ 101 ∷ 116 ∷ 116 ∷ 101 ∷ 114 ∷ []
name_of LetterR = 32 ∷ 108 ∷ 101 ∷ 116 ∷ 116 ∷ 101 ∷ 114 ∷ []
name_of Version = 32 ∷ 118 ∷ 101 ∷ 114 ∷ 115 ∷ 105 ∷ 111 ∷ 110 ∷ []
name_of FirstYear = 32 ∷ 102 ∷ 105 ∷ 114 ∷ 115 ∷ 116 ∷ 32 ∷ 121 ∷ 101 ∷ 97 ∷ 114 ∷ []
name_of StartDay = 32 ∷ 115 ∷ 116 ∷ 97 ∷ 114 ∷ 116 ∷ 32 ∷ 100 ∷ 97 ∷ 121 ∷ []
name_of Members = 32 ∷ 109 ∷ 101 ∷ 109 ∷ 98 ∷ 101 ∷ 114 ∷ 115 ∷ []
name_of HolidayCount = 32 ∷ 104 ∷ 111 ∷ 108 ∷ 105 ∷ 100 ∷ 97 ∷ 121 ∷ 115 ∷ []
name_of Holiday = 32 ∷ 104 ∷ 111 ∷ 108 ∷ 105 ∷ 100 ∷ 97 ∷ 121 ∷ []
name_of Limit = 32 ∷ 108 ∷ 105 ∷ 109 ∷ 105 ∷ 116 ∷ []
name_of Kind = 32 ∷ 107 ∷ 105 ∷ 110 ∷ 100 ∷ []
name_of Time = 32 ∷ 116 ∷ 105 ∷ 109 ∷ 101 ∷ []
name_of Member = 32 ∷ 109 ∷ 101 ∷ 109 ∷ 98 ∷ 101 ∷ 114 ∷ []
name_of Contract = 32 ∷ 99 ∷ 111 ∷ 110 ∷ 116 ∷ 114 ∷ 97 ∷ 99 ∷ 116 ∷ []
name_of Side = 32 ∷ 115 ∷ 105 ∷ 100 ∷ 101 ∷ []
name_of OrderKind = 32 ∷ 111 ∷ 114 ∷ 100 ∷ 101 ∷ 114 ∷ 32 ∷ 107 ∷ 105 ∷ 110 ∷ 100 ∷ []
name_of Price = 32 ∷ 112 ∷ 114 ∷ 105 ∷ 99 ∷ 101 ∷ []
name_of Lots = 32 ∷ 108 ∷ 111 ∷ 116 ∷ 115 ∷ []
name_of Order = 32 ∷ 111 ∷ 114 ∷ 100 ∷ 101 ∷ 114 ∷ []
name_of Low = 32 ∷ 108 ∷ 111 ∷ 119 ∷ []
name_of High = 32 ∷ 104 ∷ 105 ∷ 103 ∷ 104 ∷ []
name_of Legs = 32 ∷ 108 ∷ 101 ∷ 103 ∷ 115 ∷ []
name_of Ratio = 32 ∷ 114 ∷ 97 ∷ 116 ∷ 105 ∷ 111 ∷ []

-- " submit", " cancel", " day limits", " proposal", " default", " close-out", " close of day"
unfoldable pub kind_word : ℕ → List ℕ
kind_word v =
    cond (eqb v submit_kind) (32 ∷ 115 ∷ 117 ∷ 98 ∷ 109 ∷ 105 ∷ 116 ∷ [])
    (cond (eqb v cancel_kind) (32 ∷ 99 ∷ 97 ∷ 110 ∷ 99 ∷ 101 ∷ 108 ∷ [])
    (cond (eqb v day_limits_kind) (32 ∷ 100 ∷ 97 ∷ 121 ∷ 32 ∷ 108 ∷ 105 ∷ 109 ∷ 105 ∷ 116 ∷ 115 ∷ [])
    (cond (eqb v proposal_kind) (32 ∷ 112 ∷ 114 ∷ 111 ∷ 112 ∷ 111 ∷ 115 ∷ 97 ∷ 108 ∷ [])
    (cond (eqb v default_kind) (32 ∷ 100 ∷ 101 ∷ 102 ∷ 97 ∷ 117 ∷ 108 ∷ 116 ∷ [])
    (cond (eqb v close_out_kind) (32 ∷ 99 ∷ 108 ∷ 111 ∷ 115 ∷ 101 ∷ 45 ∷ 111 ∷ 117 ∷ 116 ∷ [])
    (32 ∷ 99 ∷ 108 ∷ 111 ∷ 115 ∷ 101 ∷ 32 ∷ 111 ∷ 102 ∷ 32 ∷ 100 ∷ 97 ∷ 121 ∷ []))))))

-- " buy", " sell"
unfoldable pub side_word : ℕ → List ℕ
side_word v = cond (eqb v 0) (32 ∷ 98 ∷ 117 ∷ 121 ∷ []) (32 ∷ 115 ∷ 101 ∷ 108 ∷ 108 ∷ [])

-- " resting", " OEYE", " TEYE"
unfoldable pub order_kind_word : ℕ → List ℕ
order_kind_word v = cond (eqb v 0) (32 ∷ 114 ∷ 101 ∷ 115 ∷ 116 ∷ 105 ∷ 110 ∷ 103 ∷ []) (cond (eqb v 1) (32 ∷ 79 ∷ 69 ∷ 89 ∷ 69 ∷ []) (32 ∷ 84 ∷ 69 ∷ 89 ∷ 69 ∷ []))

-- ---- a field in words, in a ledger of a first year
unfoldable pub quantity_words : ℕ → Field → Quantity → ℕ → List ℕ
quantity_words first f Letter v = v % 256 ∷ []
quantity_words first f Number v = name_of f ++ (space ∷ decimal v)
quantity_words first f StartDayNumber v = name_of f ++ (space ∷ decimal v)
quantity_words first f HolidayNumber v = name_of f ++ (space ∷ decimal v)
quantity_words first f KindNumber v = kind_word v
quantity_words first f SideNumber v = side_word v
quantity_words first f OrderKindNumber v = order_kind_word v
quantity_words first f Seconds v = space ∷ time_text v
quantity_words first f ContractNumber v = name_of f ++ contract_text first v
quantity_words first f Kurus v = name_of f ++ (space ∷ price_text v)

abbrev pub field_words : ℕ → Field → ℕ → List ℕ
field_words first f v = quantity_words first f (quantity_of f) v

-- ---- a fault in words
-- The number whose bytes are those of v the other way round.
unfoldable pub other_way_round : ℕ → ℕ → ℕ
other_way_round size v =
    cond (eqb size 1) v
    (cond (eqb size 2) (u16_at (v % 256 ∷ v / 256 % 256 ∷ []) 0) (u32_at (v % 256 ∷ v / 256 % 256 ∷ v / 65536 % 256 ∷ v / 16777216 % 256 ∷ []) 0))

-- "; the other way round 100", where that is in range.
unfoldable pub hint : Range → ℕ → ℕ → List ℕ
hint r size v =
    let w = other_way_round size v in
    cond (within r w) (59 ∷ 32 ∷ 116 ∷ 104 ∷ 101 ∷ 32 ∷ 111 ∷ 116 ∷ 104 ∷ 101 ∷ 114 ∷ 32 ∷ 119 ∷ 97 ∷ 121 ∷ 32 ∷ 114 ∷ 111 ∷ 117 ∷ 110 ∷ 100 ∷ space ∷ decimal w) []

-- " 25600 out of 1 to 100"
unfoldable pub out_of_range : Range → ℕ → ℕ → List ℕ
out_of_range r size v =
    (space ∷ decimal v)
    ++ ((32 ∷ 111 ∷ 117 ∷ 116 ∷ 32 ∷ 111 ∷ 102 ∷ [])
    ++ ((space ∷ decimal r.least) ++ ((32 ∷ 116 ∷ 111 ∷ []) ++ ((space ∷ decimal r.most) ++ hint r size v))))

-- " cut off"; " 3 is no business day"; " 3 is the start day"
abbrev pub reason : Range → ℕ → ℕ → Verdict → List ℕ
reason r size v Passes = []
reason r size v Cut = 32 ∷ 99 ∷ 117 ∷ 116 ∷ 32 ∷ 111 ∷ 102 ∷ 102 ∷ []
reason r size v OutOfRange = out_of_range r size v
reason r size v NoBusinessDay = (space ∷ decimal v) ++ (32 ∷ 105 ∷ 115 ∷ 32 ∷ 110 ∷ 111 ∷ 32 ∷ 98 ∷ 117 ∷ 115 ∷ 105 ∷ 110 ∷ 101 ∷ 115 ∷ 115 ∷ 32 ∷ 100 ∷ 97 ∷ 121 ∷ [])
reason r size v OnStartDay = (space ∷ decimal v) ++ (32 ∷ 105 ∷ 115 ∷ 32 ∷ 116 ∷ 104 ∷ 101 ∷ 32 ∷ 115 ∷ 116 ∷ 97 ∷ 114 ∷ 116 ∷ 32 ∷ 100 ∷ 97 ∷ 121 ∷ [])

-- "; byte 43: lots 25600 out of 1 to 100"
unfoldable pub fault_text : ℕ → Field → List ℕ → List ℕ
fault_text byte f why = (59 ∷ 32 ∷ 98 ∷ 121 ∷ 116 ∷ 101 ∷ []) ++ ((space ∷ decimal byte) ++ (58 ∷ name_of f ++ why))

-- Bytes are counted from 0 at the journal's first, of which base come before these.
unfoldable pub fault_words : ℕ → ℕ → List ℕ → ℕ → Field → List ℕ
fault_words base n s place f =
    let verdict = verdict_of n s place f in
    fault_text (base + fault_place s place verdict) f (reason (range_of n s place f) (width_of f) (number_at s place (width_of f)) verdict)

-- ---- lines
-- The fields that pass, and what is found of the first that does not.
unfoldable pub words_in : ℕ → ℕ → ℕ → List ℕ → ℕ → List Field → List ℕ
words_in first base n s place [] = []
words_in first base n s place (f ∷ fs) =
    let later = words_in first base n s (place + width_of f) fs in
    cond (passes (verdict_of n s place f)) (field_words first f (number_at s place (width_of f)) ++ later) (fault_words base n s place f)

-- The first line: "VJR version 1 first year 2021 start day 369 members 2 holidays 0 limit 1000 limit 1000".
unfoldable pub header_line : List ℕ → List ℕ
header_line s = words_in 0 0 0 s 0 (fields_in (header_shape s)) ++ (newline ∷ [])

-- The line of a record by its number, counted from 1, of which base bytes come before:
-- "2 submit 10:00:10 member 1 contract 17 (2022) buy OEYE price 261.00 lots 3".
unfoldable pub record_line : ℕ → ℕ → ℕ → ℕ → List ℕ → List ℕ
record_line n first number base s = decimal number ++ (words_in first base n s 0 (fields_in (record_shape s)) ++ (newline ∷ []))
