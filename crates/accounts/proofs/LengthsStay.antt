-- No call changes the length of a table, and an accepted record has at most 200 lines.
use Prim.Native.Nat.{ℕ}
use mathlib.Core.Path.{refl, sym, ◌∙◌}
use mathlib.Core.Bool.{not}
use mathlib.Core.List.{List, [], ◌∷◌}
use borrow.Author.Tests.{not-false}
use Rattle.std.specs.Prelude.{Ok}
use Rattle.arith.proofs.Tests.{never}
use Rattle.rules.specs.declared.refusal.Refusal.TheVariants.{TableUnsound, HeaderUnsound}
use Rattle.rules.specs.Header.{header_of, begins_with_header}
use Rattle.rules.specs.Ledger.{Tables, fresh, ledger_short}
use Rattle.rules.specs.Refusals.{apply_spec, make_spec}
use Rattle.rules.proofs.SoundTables.{long_enough}
use Rattle.accounts.specs.Lengths.{SameLengths, LengthsStay, MakingKeepsLengths, AtMost200Lines}
use Rattle.rules.proofs.SoundHeaders.{header_gives, begun}
use Rattle.accounts.proofs.EachKind.{decide_shows, every_call}
use Rattle.accounts.proofs.SameLengths.{same_lengths, fresh_lengths, Fits}
use Rattle.accounts.proofs.KindsKeep.{kind_keeps}

-- ---- every call
pub apply_fits : (t : Tables) (bytes : List ℕ) → Fits t (apply_spec t bytes)
apply_fits = every_call Fits (λ t a q. record { lengths = same_lengths t; few = λ e. never (sym e ∙ q) }) (λ e t legs u q n. (kind_keeps e t legs u q n).fits)

pub lengths_stay : LengthsStay
lengths_stay t bytes = (apply_fits t bytes).lengths

pub at_most_200_lines : AtMost200Lines
at_most_200_lines t bytes = (apply_fits t bytes).few

pub making_keeps_lengths : MakingKeepsLengths
unfolding make_spec
making_keeps_lengths t bytes =
    decide_shows (λ o. SameLengths t o.after) t (record { answer = Ok 0; after = fresh (header_of bytes) t })
    ((ledger_short t, TableUnsound) ∷ (not (begins_with_header bytes), HeaderUnsound) ∷ [])
    (λ a q. same_lengths t)
    (λ none. fresh_lengths (header_of bytes) t (header_gives (header_of bytes) (begun bytes (not-false _ none.1.0))) (long_enough t none.0))
