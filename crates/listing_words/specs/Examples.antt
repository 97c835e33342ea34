-- Lines computed: a sound record, a side of 2, and lots of 100 written the other way round, as the slip of 256 and 1 was.
use Rattle.std.specs.Prelude.{ℕ, ◌≡◌, refl, List, [], ◌∷◌, map}
use Rattle.rules.specs.ContractTerms.{term_of}
use Rattle.rules.specs.Header.{u16_at, u32_at}
use Rattle.rules.specs.Text.{decimal, digits}
use Rattle.listing_numbers.specs.Numbers.{two_digits, time_text, price_text, quarter_text, term_name, contract_text}
use Rattle.rules.specs.declared.field.Field.TheVariants.{Side, Lots}
use Rattle.rules.specs.Fields.{fields_of_kind, number_at}
use Rattle.listing_words.specs.Fields.{fields_in, within, verdict_of, none, at, fault_in, fault_of}
use Rattle.listing_words.specs.Words.{kind_word, side_word, order_kind_word, quantity_words, other_way_round, hint}
use Rattle.listing_words.specs.Words.{out_of_range, fault_text, fault_words, words_in, record_line, header_line}

-- A submit of 36010 s, member 1, contract 18, with a side, OEYE, 26005 kuruş and the two bytes of its lots.
abbrev pub submit : ℕ → ℕ → ℕ → List ℕ
submit side high low = 1 ∷ 0 ∷ 0 ∷ 140 ∷ 170 ∷ 1 ∷ 18 ∷ side ∷ 1 ∷ 0 ∷ 0 ∷ 101 ∷ 149 ∷ high ∷ low ∷ []

pub faults : map (fault_of 2) (submit 0 0 100 ∷ submit 2 0 100 ∷ submit 0 100 0 ∷ []) ≡ none ∷ at 7 Side ∷ at 13 Lots ∷ []
unfolding fields_in fields_of_kind fault_in verdict_of within number_at u16_at u32_at
faults = refl

-- "7 submit 10:00:10 member 1 contract 18 (2022 Q1) buy OEYE price 260.05 lots 100"
abbrev pub sound_line : List ℕ
sound_line =
    55 ∷ 32 ∷ 115 ∷ 117 ∷ 98 ∷ 109 ∷ 105 ∷ 116 ∷ 32 ∷ 49 ∷ 48 ∷ 58 ∷ 48 ∷ 48 ∷ 58 ∷ 49 ∷ 48 ∷ 32 ∷ 109 ∷ 101 ∷ 109 ∷ 98 ∷ 101 ∷ 114 ∷ 32 ∷ 49 ∷ 32 ∷ 99 ∷ 111 ∷ 110
    ∷ 116 ∷ 114 ∷ 97 ∷ 99 ∷ 116 ∷ 32 ∷ 49 ∷ 56 ∷ 32 ∷ 40 ∷ 50 ∷ 48 ∷ 50 ∷ 50 ∷ 32 ∷ 81 ∷ 49 ∷ 41 ∷ 32 ∷ 98 ∷ 117 ∷ 121 ∷ 32 ∷ 79 ∷ 69 ∷ 89 ∷ 69 ∷ 32 ∷ 112 ∷ 114
    ∷ 105 ∷ 99 ∷ 101 ∷ 32 ∷ 50 ∷ 54 ∷ 48 ∷ 46 ∷ 48 ∷ 53 ∷ 32 ∷ 108 ∷ 111 ∷ 116 ∷ 115 ∷ 32 ∷ 49 ∷ 48 ∷ 48 ∷ 10 ∷ []

-- "7 submit 10:00:10 member 1 contract 18 (2022 Q1); byte 107: side 2 out of 0 to 1"
abbrev pub side_line : List ℕ
side_line =
    55 ∷ 32 ∷ 115 ∷ 117 ∷ 98 ∷ 109 ∷ 105 ∷ 116 ∷ 32 ∷ 49 ∷ 48 ∷ 58 ∷ 48 ∷ 48 ∷ 58 ∷ 49 ∷ 48 ∷ 32 ∷ 109 ∷ 101 ∷ 109 ∷ 98 ∷ 101 ∷ 114 ∷ 32 ∷ 49 ∷ 32 ∷ 99 ∷ 111 ∷ 110
    ∷ 116 ∷ 114 ∷ 97 ∷ 99 ∷ 116 ∷ 32 ∷ 49 ∷ 56 ∷ 32 ∷ 40 ∷ 50 ∷ 48 ∷ 50 ∷ 50 ∷ 32 ∷ 81 ∷ 49 ∷ 41 ∷ 59 ∷ 32 ∷ 98 ∷ 121 ∷ 116 ∷ 101 ∷ 32 ∷ 49 ∷ 48 ∷ 55 ∷ 58 ∷ 32
    ∷ 115 ∷ 105 ∷ 100 ∷ 101 ∷ 32 ∷ 50 ∷ 32 ∷ 111 ∷ 117 ∷ 116 ∷ 32 ∷ 111 ∷ 102 ∷ 32 ∷ 48 ∷ 32 ∷ 116 ∷ 111 ∷ 32 ∷ 49 ∷ 10 ∷ []

-- "7 submit 10:00:10 member 1 contract 18 (2022 Q1) buy OEYE price 260.05; byte 113: lots 25600 out of 1 to 100; the other way round 100"
abbrev pub lots_line : List ℕ
lots_line =
    55 ∷ 32 ∷ 115 ∷ 117 ∷ 98 ∷ 109 ∷ 105 ∷ 116 ∷ 32 ∷ 49 ∷ 48 ∷ 58 ∷ 48 ∷ 48 ∷ 58 ∷ 49 ∷ 48 ∷ 32 ∷ 109 ∷ 101 ∷ 109 ∷ 98 ∷ 101 ∷ 114 ∷ 32 ∷ 49 ∷ 32 ∷ 99 ∷ 111 ∷ 110
    ∷ 116 ∷ 114 ∷ 97 ∷ 99 ∷ 116 ∷ 32 ∷ 49 ∷ 56 ∷ 32 ∷ 40 ∷ 50 ∷ 48 ∷ 50 ∷ 50 ∷ 32 ∷ 81 ∷ 49 ∷ 41 ∷ 32 ∷ 98 ∷ 117 ∷ 121 ∷ 32 ∷ 79 ∷ 69 ∷ 89 ∷ 69 ∷ 32 ∷ 112 ∷ 114
    ∷ 105 ∷ 99 ∷ 101 ∷ 32 ∷ 50 ∷ 54 ∷ 48 ∷ 46 ∷ 48 ∷ 53 ∷ 59 ∷ 32 ∷ 98 ∷ 121 ∷ 116 ∷ 101 ∷ 32 ∷ 49 ∷ 49 ∷ 51 ∷ 58 ∷ 32 ∷ 108 ∷ 111 ∷ 116 ∷ 115 ∷ 32 ∷ 50 ∷ 53 ∷ 54
    ∷ 48 ∷ 48 ∷ 32 ∷ 111 ∷ 117 ∷ 116 ∷ 32 ∷ 111 ∷ 102 ∷ 32 ∷ 49 ∷ 32 ∷ 116 ∷ 111 ∷ 32 ∷ 49 ∷ 48 ∷ 48 ∷ 59 ∷ 32 ∷ 116 ∷ 104 ∷ 101 ∷ 32 ∷ 111 ∷ 116 ∷ 104 ∷ 101 ∷ 114 ∷ 32
    ∷ 119 ∷ 97 ∷ 121 ∷ 32 ∷ 114 ∷ 111 ∷ 117 ∷ 110 ∷ 100 ∷ 32 ∷ 49 ∷ 48 ∷ 48 ∷ 10 ∷ []

-- As record 7, after 100 bytes, in a ledger of two members from 2021 on.
pub lines : map (record_line 2 2021 7 100) (submit 0 0 100 ∷ submit 2 0 100 ∷ submit 0 100 0 ∷ []) ≡ sound_line ∷ side_line ∷ lots_line ∷ []
unfolding record_line words_in quantity_words fault_words fault_text fields_in fields_of_kind verdict_of within number_at u16_at u32_at kind_word side_word order_kind_word time_text two_digits price_text
    contract_text quarter_text term_name term_of out_of_range hint other_way_round decimal digits
lines = refl

-- A journal of which every number is written the other way round: version 256.
-- "VJR; byte 3: version 256 out of 1 to 1; the other way round 1"
abbrev pub turned_line : List ℕ
turned_line =
    86 ∷ 74 ∷ 82 ∷ 59 ∷ 32 ∷ 98 ∷ 121 ∷ 116 ∷ 101 ∷ 32 ∷ 51 ∷ 58 ∷ 32 ∷ 118 ∷ 101 ∷ 114 ∷ 115 ∷ 105 ∷ 111 ∷ 110 ∷ 32 ∷ 50 ∷ 53 ∷ 54 ∷ 32 ∷ 111 ∷ 117 ∷ 116 ∷ 32 ∷ 111
    ∷ 102 ∷ 32 ∷ 49 ∷ 32 ∷ 116 ∷ 111 ∷ 32 ∷ 49 ∷ 59 ∷ 32 ∷ 116 ∷ 104 ∷ 101 ∷ 32 ∷ 111 ∷ 116 ∷ 104 ∷ 101 ∷ 114 ∷ 32 ∷ 119 ∷ 97 ∷ 121 ∷ 32 ∷ 114 ∷ 111 ∷ 117 ∷ 110 ∷ 100 ∷ 32
    ∷ 49 ∷ 10 ∷ []

pub turned : header_line (86 ∷ 74 ∷ 82 ∷ 1 ∷ 0 ∷ 229 ∷ 7 ∷ 113 ∷ 1 ∷ []) ≡ turned_line
unfolding header_line words_in quantity_words fault_words fault_text fields_in verdict_of within number_at u16_at out_of_range hint other_way_round decimal digits
turned = refl
