-- Document 01, "Why a record is turned back": the numbers. What an outcome is, and how causes decide.
use Rattle.std.specs.Prelude.{ℕ, suc, Bool, true, false, cond, List, [], ◌∷◌, map, ◌≡◌, refl, eqb, Option, Some, None, Result, Ok, Err}
use Rattle.rules.specs.declared.refusal.Refusal.TheVariants.{TableUnsound, HeaderUnsound, RecordUnsound, TimeBelowLedger, MemberDefaulted, ContractNotOpen}
use Rattle.rules.specs.declared.refusal.Refusal.TheVariants.{PriceOutsideLimits, SixthSubmit, AboveLimit, CannotMatchInFull, BookFull, NoSuchOrder, NotAcceptable}
use Rattle.rules.specs.declared.refusal.Refusal.TheVariants.{NoReferencePrice, NoDefaultedLots, NoTaker, TotalPassed, NoLaterDay}
use Rattle.rules.specs.declared.refusal.Refusal.{Refusal}
use Rattle.rules.specs.declared.units.DayNo.{DayNo}

-- An answer as the paper gives it: the number of the cause and, with 5, the member, with 6, the contract.
-- An accepted record has number 0 and returns its line count.
pub record Reply : Type 0 where
  pub number : ℕ
  pub detail : ℕ

abbrev pub reply_of : Result ℕ Refusal → Reply
reply_of (Ok n) = record { number = 0; detail = n }
reply_of (Err TableUnsound) = record { number = 1; detail = 0 }
reply_of (Err HeaderUnsound) = record { number = 2; detail = 0 }
reply_of (Err RecordUnsound) = record { number = 3; detail = 0 }
reply_of (Err TimeBelowLedger) = record { number = 4; detail = 0 }
reply_of (Err (MemberDefaulted m)) = record { number = 5; detail = m }
reply_of (Err (ContractNotOpen c)) = record { number = 6; detail = c }
reply_of (Err PriceOutsideLimits) = record { number = 7; detail = 0 }
reply_of (Err SixthSubmit) = record { number = 8; detail = 0 }
reply_of (Err AboveLimit) = record { number = 9; detail = 0 }
reply_of (Err CannotMatchInFull) = record { number = 10; detail = 0 }
reply_of (Err BookFull) = record { number = 11; detail = 0 }
reply_of (Err NoSuchOrder) = record { number = 12; detail = 0 }
reply_of (Err NotAcceptable) = record { number = 13; detail = 0 }
reply_of (Err NoReferencePrice) = record { number = 14; detail = 0 }
reply_of (Err NoDefaultedLots) = record { number = 15; detail = 0 }
reply_of (Err NoTaker) = record { number = 16; detail = 0 }
reply_of (Err TotalPassed) = record { number = 17; detail = 0 }
reply_of (Err NoLaterDay) = record { number = 18; detail = 0 }

-- The paper's number for the next business day, with the day: that there is no later one in the span is 18.
abbrev pub reply_of_next_day : Option DayNo → Reply
reply_of_next_day (Some d) = record { number = 0; detail = d.0 }
reply_of_next_day None = reply_of (Err NoLaterDay)

-- The next business day is 371; there is no later one.
next_days : map reply_of_next_day (Some (record { 0 = 371 }) ∷ None ∷ []) ≡ record { number = 0; detail = 371 } ∷ record { number = 18; detail = 0 } ∷ []
next_days = refl

-- What a call answers, and what it leaves.
pub record Outcome (S : Type 0) : Type 0 where
  pub answer : Result ℕ Refusal
  pub after : S

-- ---- which cause is answered
-- The numbers in the order of their ranks, document 01's own: lower number wins. The causes of a record stand in this order, so that
-- the answer is the one of the lowest rank. A further number is put in its place here, and no other rank is written anew.
unfoldable pub ranking : List ℕ
ranking = 1 ∷ 2 ∷ 3 ∷ 4 ∷ 5 ∷ 6 ∷ 7 ∷ 8 ∷ 9 ∷ 10 ∷ 11 ∷ 12 ∷ 13 ∷ 14 ∷ 15 ∷ 16 ∷ 17 ∷ 18 ∷ []

-- Where n stands in a list whose first place is i; 0 where it does not.
unfoldable pub place_from : ℕ → List ℕ → ℕ → ℕ
place_from i [] n = 0
place_from i (m ∷ ms) n = cond (eqb n m) i (place_from (suc i) ms n)

-- The rank of a number, 1 for the first. That of 0, an accepted record, is 0, and so is that of a number which was left out.
unfoldable pub rank_of : ℕ → ℕ
rank_of n = place_from 1 ranking n

abbrev pub rank : Result ℕ Refusal → ℕ
rank a = rank_of (reply_of a).number

-- A cause: whether it holds, and why it refuses.
abbrev pub Cause : Type 0
Cause = Bool × Refusal

-- A record's causes stand in the order of their ranks, and the first that holds refuses and leaves all as it was.
-- (A writer's stand in the order in which it tests.)
abbrev pub decide : {S : Type 0} → List Cause → S → Outcome S → Outcome S
decide [] s booked = booked
decide ((true, a) ∷ causes) s booked = record { answer = Err a; after = s }
decide ((false, a) ∷ causes) s booked = decide causes s booked
