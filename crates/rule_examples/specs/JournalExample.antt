-- The journal of document 01, computed from its bytes: what its calls answer, the lots run, and its whole output.
use Rattle.std.specs.Prelude.{ℕ, ◌≡◌, refl, take}
use mathlib.Core.List.{List, [], ◌∷◌, ◌++◌, flat_map}
use Rattle.rules.specs.Ledger.{lots_run, zero_tables}
use Rattle.rules.specs.Records.{front_of}
use Rattle.rules.specs.Refusals.{make_spec}
use Rattle.rules.specs.Text.{digits, decimal, signed_decimal, line_text}
use Rattle.rules.specs.Journal.{head_text, deal_text, refusal_text, end_text, length_by_front, answer_text, records_within, records_text, journal_text_on, journal_text}
use Rattle.rules.specs.Computed.{all_printed, tables_after, computed}
use Rattle.rules.specs.ExampleRecords.{bought, accepted, refused}

-- First year 2021, start 369, two members, no holidays, limits 1000.
abbrev journal_header : List ℕ
journal_header = 86 ∷ 74 ∷ 82 ∷ 0 ∷ 1 ∷ 7 ∷ 229 ∷ 1 ∷ 113 ∷ 2 ∷ 0 ∷ 0 ∷ 0 ∷ 3 ∷ 232 ∷ 0 ∷ 0 ∷ 3 ∷ 232 ∷ []

abbrev journal : List (List ℕ)
journal =
    -- 36000 s, member 0, contract 17, sell, resting, 26000, 5 lots
    (1 ∷ 0 ∷ 0 ∷ 140 ∷ 160 ∷ 0 ∷ 17 ∷ 1 ∷ 0 ∷ 0 ∷ 0 ∷ 101 ∷ 144 ∷ 0 ∷ 5 ∷ [])
    -- 36010 s, member 1, 17, buy, OEYE, 26100, 3 lots; the same at 36005 s
    ∷ (1 ∷ 0 ∷ 0 ∷ 140 ∷ 170 ∷ 1 ∷ 17 ∷ 0 ∷ 1 ∷ 0 ∷ 0 ∷ 101 ∷ 244 ∷ 0 ∷ 3 ∷ [])
    ∷ (1 ∷ 0 ∷ 0 ∷ 140 ∷ 165 ∷ 1 ∷ 17 ∷ 0 ∷ 1 ∷ 0 ∷ 0 ∷ 101 ∷ 244 ∷ 0 ∷ 3 ∷ [])
    ∷ []

journal_printed : all_printed (make_spec zero_tables journal_header).after journal ≡ accepted [] ∷ accepted (bought 1 0 17 3 26000) ∷ refused 4 ∷ []
unfolding computed
journal_printed = refl

journal_run : lots_run (tables_after (make_spec zero_tables journal_header).after journal) ≡ 6
unfolding computed
journal_run = refl

-- ---- the program's output
-- "H 2021 369 2"
abbrev printed_head : List ℕ
printed_head = 72 ∷ 32 ∷ 50 ∷ 48 ∷ 50 ∷ 49 ∷ 32 ∷ 51 ∷ 54 ∷ 57 ∷ 32 ∷ 50 ∷ 10 ∷ []

-- "D 1 17 3 26000", "D 0 17 -3 26000", with this digit for the lots.
abbrev printed_deals : ℕ → List ℕ
printed_deals q =
    (68 ∷ 32 ∷ 49 ∷ 32 ∷ 49 ∷ 55 ∷ 32 ∷ q ∷ 32 ∷ 50 ∷ 54 ∷ 48 ∷ 48 ∷ 48 ∷ 10 ∷ [])
    ++ (68 ∷ 32 ∷ 48 ∷ 32 ∷ 49 ∷ 55 ∷ 32 ∷ 45 ∷ q ∷ 32 ∷ 50 ∷ 54 ∷ 48 ∷ 48 ∷ 48 ∷ 10 ∷ [])

-- R and E with these digits after their spaces.
abbrev printed_r : ℕ → ℕ → List ℕ
printed_r n cause = 82 ∷ 32 ∷ n ∷ 32 ∷ cause ∷ 10 ∷ []

abbrev printed_e : ℕ → ℕ → ℕ → List ℕ
printed_e taken turnedBack run = 69 ∷ 32 ∷ taken ∷ 32 ∷ turnedBack ∷ 32 ∷ run ∷ 10 ∷ []

whole : List ℕ
whole = journal_header ++ flat_map (λ r. r) journal

unfoldable computed_text : {A : Type 0} → A → A
unfolding computed front_of digits decimal signed_decimal line_text head_text deal_text refusal_text end_text length_by_front answer_text records_within records_text journal_text_on whole
computed_text x = x

-- Whole output.
whole_output : journal_text whole ≡ printed_head ++ (printed_deals 51 ++ (printed_r 51 52 ++ printed_e 50 49 54))
unfolding computed_text
whole_output = refl

-- After 2 only R 0 2; a header alone is a whole journal.
header_cut : journal_text (take 18 whole) ≡ printed_r 48 50
unfolding computed_text
header_cut = refl

header_alone : journal_text journal_header ≡ printed_head ++ printed_e 48 48 48
unfolding computed_text
header_alone = refl

-- After any other number it goes on: a fourth record, the second again, meets the two lots that still rest.
-- The end is "E 3 1 10".
goes_on_after_four : journal_text (whole ++ (1 ∷ 0 ∷ 0 ∷ 140 ∷ 170 ∷ 1 ∷ 17 ∷ 0 ∷ 1 ∷ 0 ∷ 0 ∷ 101 ∷ 244 ∷ 0 ∷ 3 ∷ []))
    ≡ printed_head ++ (printed_deals 51 ++ (printed_r 51 52 ++ (printed_deals 50 ++ (69 ∷ 32 ∷ 51 ∷ 32 ∷ 49 ∷ 32 ∷ 49 ∷ 48 ∷ 10 ∷ []))))
unfolding computed_text
goes_on_after_four = refl

-- After 3 it stops: a cut record, and an unknown kind with a sound record behind it.
record_cut : journal_text (take 35 whole) ≡ printed_head ++ (printed_r 50 51 ++ printed_e 49 49 48)
unfolding computed_text
record_cut = refl

unknown_kind : journal_text (journal_header ++ (8 ∷ 5 ∷ 1 ∷ [])) ≡ printed_head ++ (printed_r 49 51 ++ printed_e 48 49 48)
unfolding computed_text
unknown_kind = refl
