-- Document 01's order of causes is its numbers.
use mathlib.Core.Path.{◌≡◌, refl}
use mathlib.Core.Bool.{true}
use mathlib.Core.List.{[], ◌∷◌, map}
use Rattle.std.specs.Prelude.{Ok, Err}
use Rattle.arith.specs.Lists.{from, every, any}
use Rattle.rules.specs.declared.refusal.Refusal.TheVariants.{TableUnsound, HeaderUnsound, RecordUnsound, TimeBelowLedger, MemberDefaulted, ContractNotOpen}
use Rattle.rules.specs.declared.refusal.Refusal.TheVariants.{PriceOutsideLimits, SixthSubmit, AboveLimit, CannotMatchInFull, BookFull, NoSuchOrder, NotAcceptable}
use Rattle.rules.specs.declared.refusal.Refusal.TheVariants.{NoReferencePrice, NoDefaultedLots, NoTaker, TotalPassed, NoLaterDay}
use Rattle.rules.specs.Answers.{ranking, place_from, rank_of, rank}
use Rattle.rules.specs.Header.{rising}
use Rattle.rules.specs.Refusals.{distinct}

-- From 0 to 18 the rank rises with the number: each has one, and no two change places.
pub ranks_rise : rising (map rank_of (from 0 19)) ≡ true
unfolding ranking place_from rank_of from rising every
ranks_rise = refl

-- No number stands twice.
pub ranked_once : distinct ranking ≡ true
unfolding ranking distinct any
ranked_once = refl

-- Each answer has the rank of its number, whatever goes with it.
pub answers_ranked :
    map rank
    (Ok 200
    ∷ Err TableUnsound
    ∷ Err HeaderUnsound
    ∷ Err RecordUnsound
    ∷ Err TimeBelowLedger
    ∷ Err (MemberDefaulted 31)
    ∷ Err (ContractNotOpen 17)
    ∷ Err PriceOutsideLimits
    ∷ Err SixthSubmit
    ∷ Err AboveLimit
    ∷ Err CannotMatchInFull
    ∷ Err BookFull
    ∷ Err NoSuchOrder
    ∷ Err NotAcceptable
    ∷ Err NoReferencePrice
    ∷ Err NoDefaultedLots
    ∷ Err NoTaker
    ∷ Err TotalPassed
    ∷ Err NoLaterDay
    ∷ [])
    ≡ from 0 19
unfolding ranking place_from rank_of from
answers_ranked = refl
