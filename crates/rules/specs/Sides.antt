-- Buy and sell: their numbers, in a record (document 01, "Records": side u8, 0 buy, 1 sell) and in the book alike.
use Rattle.std.specs.Prelude.{ℕ, Bool, true, false, cond, eqb, ℤ, pos, neg_ℤ}
use Rattle.rules.specs.declared.order.Side.{Side}
use Rattle.rules.specs.declared.order.Side.TheVariants.{Buy, Sell}

abbrev pub side_number : Side → ℕ
side_number Buy = 0
side_number Sell = 1

abbrev pub side_of : ℕ → Side
side_of n = cond (eqb n (side_number Buy)) Buy Sell

abbrev pub same_side : Side → Side → Bool
same_side Buy Buy = true
same_side Buy Sell = false
same_side Sell Buy = false
same_side Sell Sell = true

abbrev pub other_side : Side → Side
other_side Buy = Sell
other_side Sell = Buy

-- Lots with the sign of their side: a buy adds, a sell takes away.
abbrev pub signed : Side → ℕ → ℤ
signed Buy q = pos q
signed Sell q = neg_ℤ (pos q)
