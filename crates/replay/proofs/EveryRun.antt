-- What holds of the same records applied to two ledgers holds of runs whose calls kept their promises. Assumes nothing.
use Prim.Native.Nat.{ℕ}
use mathlib.Core.Path.{◌≡◌, refl, sym, ap, subst, subst₂, ◌∙◌}
use mathlib.Core.Bool.{not}
use mathlib.Core.List.{List, [], ◌∷◌, map}
use Rattle.std.specs.Prelude.{Result}
use Rattle.arith.proofs.Tests.{passes}
use Rattle.rules.specs.Answers.{Reply, reply_of}
use Rattle.rules.specs.Header.{header_of}
use Rattle.rules.specs.Ledger.{Tables, Line, members, holiday_count}
use Rattle.rules.specs.Accounts.{call_spec, after}
use Rattle.accounts.specs.EveryRun.{Applied, calls, standing, Kept, lines_of_reply, MakesByRules, AppliesByRules}
use Rattle.accounts.proofs.ListsToRuns.{told, made_well, same_as_list}
use Rattle.replay.specs.Surplus.{SameButSurplus, SurplusUntouched}
use Rattle.replay.specs.Replay.{answered, Replayed, shown, SameRuns, RunsAlike, RunsRecover, RunsLeaveSurplus}
use Rattle.replay.proofs.Making.{recovers}
use Rattle.replay.proofs.EveryList.{replays_alike}
use Rattle.replay.proofs.SurplusStays.{surplus_stays}
use Rattle.rules.specs.declared.refusal.Refusal.{Refusal}

-- an answer with its lines as it is seen
abbrev seen : Result ℕ Refusal × List Line → Reply × List Line
seen x = (reply_of x.0, x.1)

module _ {A : Type 0} (reply : A → Reply) (Make Apply : Tables → List ℕ → A → Tables → Type 0) (makes : MakesByRules reply Make) (applies : AppliesByRules reply Apply) where
  shown_as_answered : (run : List (Applied A)) (t : Tables) → Kept Apply t run → map seen (answered t (calls run)) ≡ shown reply run
  unfolding Kept answered shown
  shown_as_answered [] t k = refl
  shown_as_answered (a ∷ run) t k =
      let is = applies _ a.call.bytes a.answer a.left k.0 in
      let as-kept : told (call_spec t a.call) ≡ (reply a.answer, a.left) = λ i. (sym is.0 i, sym is.1 i) in
      ap (λ (o : Reply × Tables). (o.0, lines_of_reply o.0 o.1.lines) ∷ map seen (answered o.1 (calls run))) as-kept
      ∙ ap (λ rest. (reply a.answer, lines_of_reply (reply a.answer) a.left.lines) ∷ rest) (shown_as_answered run a.left k.1)

  stands : (run : List (Applied A)) (t : Tables) → Kept Apply t run → after t (calls run) ≡ standing t run
  stands run t k = (same_as_list reply Apply applies (header_of []) run 0 t k).tables

  runs_of : (t u : Tables) (run other : List (Applied A)) → Kept Apply t run → Kept Apply u other → Replayed t u (calls run) (calls other) → SameRuns reply t u run other
  runs_of t u run other k k' r = record {
    replies = sym (shown_as_answered run t k) ∙ ap (map seen) r.answers ∙ shown_as_answered other u k';
    ledger = subst₂ SameButSurplus (stands run t k) (stands other u k') r.ledger;
  }

  pub runs_alike : RunsAlike reply Make Apply
  runs_alike t u run other s k k' same = runs_of t u run other k k' (replays_alike t u (calls run) (calls other) s same)

  pub runs_recover : RunsRecover reply Make Apply
  runs_recover header t made answer run u remade again other m e m' e' k k' same =
      let is = makes t header answer made m in
      let is' = makes u header again remade m' in
      let well = made_well t header (sym is.0 ∙ e) in
      let well' = made_well u header (sym is'.0 ∙ e') in
      runs_of made remade run other k k' (rw (is.1, is'.1) (recovers header t u (calls run) (calls other) (passes _ well.1) (passes _ (ap not well.0)) (passes _ (ap not well'.0)) same))

  pub runs_leave_surplus : RunsLeaveSurplus reply Make Apply
  runs_leave_surplus t run k = subst (SurplusUntouched (members t) (holiday_count t) t) (stands run t k) (surplus_stays t (calls run))
