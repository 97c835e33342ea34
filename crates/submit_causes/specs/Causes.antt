-- A submit's causes in two parts: those that follow from head and prices, and those that need the book.
use Rattle.std.specs.Prelude.{ℕ, ◌+◌, ◌*◌, min, Bool, not, ◌&&◌, ◌||◌, List, [], ◌∷◌, eqb, leb, ltb, pos, ◌+ℤ◌, Result, Ok, Err, ⊤}
use Rattle.std.specs.Int.Signed.{lt_z}
use Rattle.rules.specs.declared.refusal.Refusal.TheVariants.{TimeBelowLedger, MemberDefaulted, ContractNotOpen, PriceOutsideLimits, SixthSubmit, AboveLimit, CannotMatchInFull, BookFull, TotalPassed}
use Rattle.rules.specs.declared.event.Submission.{Submission}
use Rattle.rules.specs.Answers.{Outcome}
use Rattle.rules.specs.Ranges.{most_submits_in_second, most_orders, most_lots_run, most_accepted_submits}
use Rattle.rules.specs.Ledger.{Tables, time, accepted_submits, lots_run, order_count, limit, defaulted, is_open, low, high, lots_at}
use Rattle.rules.specs.Matching.{is_teye, is_resting, mirrored, submits_at}
use Rattle.rules.specs.declared.refusal.Refusal.{Refusal}

-- What a verdict leads to.
abbrev pub outcome : Result ⊤ Refusal → Tables → Outcome Tables → Outcome Tables
outcome (Err x) t booked = record { answer = Err x; after = t }
outcome (Ok _) t booked = booked

-- Causes 4 to 8.
abbrev pub first_causes : Tables → Submission → List (Bool × Refusal)
first_causes t e =
    (ltb e.time (time t), TimeBelowLedger)
    ∷ (defaulted t e.member, MemberDefaulted e.member)
    ∷ (not (is_open t e.contract), ContractNotOpen e.contract)
    ∷ (ltb e.price.0 (low t e.contract) || ltb (high t e.contract) e.price.0, PriceOutsideLimits)
    ∷ (leb most_submits_in_second (submits_at t e.time e.member), SixthSubmit)
    ∷ []

-- Causes 9, 10, 11 and 17, from the member's own resting lots and the lots that cross. The order is matched with the smaller of its
-- lots and the lots that cross. Only where none cross does it rest beside as many orders as before.
abbrev pub measured_causes : ℕ → ℕ → Tables → Submission → List (Bool × Refusal)
measured_causes own crossing t e =
    (lt_z (pos (limit t e.member)) (mirrored e.side (lots_at t e.contract e.member) +ℤ pos (own + e.lots.0)), AboveLimit)
    ∷ (is_teye e.kind && ltb crossing e.lots.0, CannotMatchInFull)
    ∷ (is_resting e.kind && (eqb crossing 0 && leb most_orders (order_count t)), BookFull)
    ∷ (ltb most_lots_run (lots_run t + 2 * min e.lots.0 crossing) || leb most_accepted_submits (accepted_submits t), TotalPassed)
    ∷ []
