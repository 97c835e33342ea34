-- The orders of a book by their places: the number, the side, and the other fields.
use Rattle.std.specs.Prelude.{ℕ, ◌+◌, ◌*◌, Bool, ◌&&◌, List, [], ◌∷◌, nat_le, nat_lt, slice_index}
use Rattle.arith.specs.Lists.{every, from, all_of}
use Rattle.rules.specs.Ranges.{most_price, most_lots}
use Rattle.rules.specs.Ledger.{order_width, order_at, side_at}
use Rattle.rules.specs.Records.{contract_sound, time_sound}

-- A number is from the first up to but not including the end.
abbrev pub between : ℕ → ℕ → ℕ → Bool
between first end x = nat_le first x && nat_lt x end

abbrev pub number_at : List ℕ → ℕ → ℕ
number_at book i = slice_index book (i * order_width)

-- Member, contract, price, lots, day and time of order i are in range, given the span's first day and the first day after it.
unfoldable pub fields_in_range : ℕ → ℕ → ℕ → List ℕ → ℕ → Bool
fields_in_range members start end book i =
    let o = order_at book i in
    all_of
    (nat_lt o.member members
    ∷ contract_sound o.contract
    ∷ between 1 (most_price + 1) o.price.0
    ∷ between 1 (most_lots + 1) o.lots.0
    ∷ between start end o.day.0
    ∷ time_sound o.time
    ∷ [])

abbrev pub place_sound : ℕ → ℕ → ℕ → ℕ → List ℕ → ℕ → Bool
place_sound accepted members start end book i = nat_lt (number_at book i) accepted && fields_in_range members start end book i && nat_lt (side_at book i) 2

-- Every order of the first n is sound.
unfoldable pub places_sound : ℕ → ℕ → ℕ → ℕ → List ℕ → ℕ → Bool
places_sound accepted members start end book n = every (place_sound accepted members start end book) (from 0 n)
