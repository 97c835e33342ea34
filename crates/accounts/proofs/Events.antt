-- Every call shows what demand 3 asks of it.
use mathlib.Core.Path.{subst}
use mathlib.Core.List.{List}
use Prim.Native.Nat.{ℕ}
use Rattle.std.specs.Prelude.{Option}
use Rattle.rules.specs.Answers.{Outcome}
use Rattle.rules.specs.Header.{Header, calendar_of}
use Rattle.rules.specs.Ledger.{Tables}
use Rattle.rules.specs.Records.{read_of}
use Rattle.rules.specs.Refusals.{apply_spec}
use Rattle.rules.specs.Accounts.{day_after_event}
use Rattle.accounts.proofs.Runs.{Runs}
use Rattle.accounts.proofs.Calls.{Does, refused_does}
use Rattle.accounts.proofs.EachKind.{every_reading}
use Rattle.accounts.proofs.KindsKeep.{kind_keeps}
use Rattle.rules.specs.declared.event.Event.{Event}

pub apply_shows : (h : Header) (d : ℕ) (t : Tables) (bytes : List ℕ) → Runs h d t → Does h d (day_after_event (calendar_of h) d (read_of h.members bytes)) t (apply_spec t bytes)
apply_shows h d t bytes r =
    let Shows : Option Event → Tables → Outcome Tables → Type 0 = λ x t o. Runs h d t → Does h d (day_after_event (calendar_of h) d x) t o in
    subst (λ n. Does h d (day_after_event (calendar_of h) d (read_of n bytes)) t (apply_spec t bytes)) r.size
    (every_reading Shows (λ x t a q r. refused_does h d _ t a q r) (λ e t legs u q n. (kind_keeps e t legs u q n).does h d) t bytes r)
