-- What `accounts` shows of the rules holds of what the C entries answer and leave. Assumes nothing.
use Prim.Native.Nat.{ℕ}
use mathlib.Core.Path.{◌≡◌, refl, sym, ap, subst, subst₂, ◌∙◌}
use mathlib.Core.Bool.{not}
use mathlib.Core.List.{List, []}
use borrow.Author.Tests.{eqb-true}
use Rattle.arith.proofs.Tests.{true_or, never, passes}
use Rattle.rules.specs.Answers.{Outcome, Reply, reply_of}
use Rattle.rules.specs.Header.{header_of}
use Rattle.rules.specs.Ledger.{Tables, with_lines}
use Rattle.rules.specs.Refusals.{unsound, make_spec, apply_spec}
use Rattle.rules.specs.Accounts.{after, log}
use Rattle.accounts.specs.EveryList as rules
use Rattle.accounts.specs.EveryList.{AfterEveryList, GgfsKept}
use Rattle.accounts.specs.EveryRun.{Applied, calls, Kept, MakesByRules, AppliesByRules}
use Rattle.accounts.specs.Refused.{accepted_calls, SameLedger}
use Rattle.accounts.proofs.Answered.{answers_exactly}
use Rattle.accounts.proofs.ClosedOut.{defaulted_are_closed_out}
use Rattle.accounts.proofs.Complete.{matching_is_complete, nobody_is_passed_over}
use Rattle.accounts.proofs.EveryList.{never_crossed, numbers_rise, defaulted_never_rest, day_is_the_lists, run_is_logged, ggf_never_lost}
use Rattle.accounts.proofs.ListsToRuns.{made_well, SameAsList, same_as_list, after_every_run}
use Rattle.accounts.proofs.LengthsStay.{lengths_stay, making_keeps_lengths, at_most_200_lines}
use Rattle.accounts.proofs.LinesSound.{every_line_sound}
use Rattle.accounts.proofs.NeverDamaged.{never_damaged, one_for_lines_alone}
use Rattle.accounts.proofs.Refused.{refused_changes_nothing, refused_makes_nothing, striking_changes_nothing}
use Rattle.accounts.proofs.StaysSound.{stays_sound, only_rows_change}
use Rattle.accounts.proofs.TwoBookkeepers.{two_bookkeepers, orders_rest_in_open}
use Rattle.replay.proofs.EveryRun.{runs_alike, runs_recover, runs_leave_surplus}
use Rattle.replay.proofs.PastWritten.{lines_stay, book_stays}
use Rattle.replay.proofs.Making.{making_leaves_surplus}
use Rattle.host.specs.Sent.{Sent, sent, damage_number}
use Rattle.host.specs.Entries.{MakesReply, AppliesReply, GotAs, OfRecord, OfMaking, EveryRecord, EveryMaking, AnswersNoDamage, AfterRun, EveryRun, GgfsStay, Struck, ReplaysAlike, Recovers, SurplusStays}

-- ---- every call
got : (Q : Outcome Tables → Type 0) (o : Outcome Tables) → Q o → (s : Sent Tables) → s ≡ sent o → GotAs Q s.number s.detail s.after
got Q o q s e = subst (λ (x : Sent Tables). GotAs Q x.number x.detail x.after) (sym e) (record { answer = o.answer; number_is = refl; detail_is = refl; holds = q })

of_record : (t : Tables) (bytes : List ℕ) → OfRecord t bytes (apply_spec t bytes)
of_record t bytes = record {
  exact = answers_exactly t bytes;
  refused = refused_changes_nothing t bytes;
  lengths = lengths_stay t bytes;
  few_lines = at_most_200_lines t bytes;
  lines_sound = every_line_sound t bytes;
  complete = matching_is_complete t bytes;
  none_passed_over = nobody_is_passed_over t bytes;
  closed_out_holds = defaulted_are_closed_out t bytes;
  sound = stays_sound t bytes;
  sound_but_rows = only_rows_change t bytes;
  lines_untouched = lines_stay t bytes;
  book_untouched = book_stays t bytes;
}

pub every_record : EveryRecord
every_record t bytes number detail u e = got (OfRecord t bytes) (apply_spec t bytes) (of_record t bytes) (record { number = number; detail = detail; after = u }) e

pub every_making : EveryMaking
every_making t header number u e =
    got (OfMaking t header) (make_spec t header)
    (record {
      refused = refused_makes_nothing t header;
      lengths = making_keeps_lengths t header;
      surplus = λ a. let well = made_well t header (eqb-true (reply_of (make_spec t header).answer).number 0 a) in (making_leaves_surplus header t (passes _ well.1) (passes _ (ap not well.0))).0;
      book = λ a. let well = made_well t header (eqb-true (reply_of (make_spec t header).answer).number 0 a) in (making_leaves_surplus header t (passes _ well.1) (passes _ (ap not well.0))).1;
    })
    (record { number = number; detail = 0; after = u }) e

-- ---- every run of calls
makes_by_rules : MakesByRules (λ (reply : Reply). reply) MakesReply
makes_by_rules t header reply u e = (ap (λ (s : Sent Tables). s.number) e, ap (λ (s : Sent Tables). s.after) e)

applies_by_rules : AppliesByRules (λ (reply : Reply). reply) AppliesReply
applies_by_rules t bytes reply u e = (ap (λ (s : Sent Tables). record { number = s.number; detail = s.detail }) e, ap (λ (s : Sent Tables). s.after) e)

-- tables for which number 1 is answered for a short line table alone are not damaged
no_damage : (t : Tables) → rules.OneForShortLines t → AnswersNoDamage t
unfolding damage_number apply_spec
no_damage t one l long =
    let v = with_lines l t in
    true_or (unsound v) (λ e. never (sym (one (record { bytes = []; lines = l }) (rw e refl)) ∙ long)) (λ e. rw e refl)

after_list : AfterEveryList AfterRun
after_list header t calls b long = record {
  agrees = two_bookkeepers header t calls b long;
  not_damaged = never_damaged header t calls b long;
  one_for_lines = λ call detail u e. one_for_lines_alone header t calls b long call (ap (λ (s : Sent Tables). s.number) (sym e));
  no_damage = no_damage (after (make_spec t header).after calls) (one_for_lines_alone header t calls b long);
  rest_in_open = orders_rest_in_open header t calls b long;
  uncrossed = never_crossed header t calls b long;
  rising = numbers_rise header t calls b long;
  none_defaulted = defaulted_never_rest header t calls b long;
  run_is_logged = run_is_logged header t calls b long;
  day_is_the_lists = day_is_the_lists header t calls b long;
}

pub every_run : EveryRun
every_run = after_every_run (λ reply. reply) AppliesReply applies_by_rules MakesReply makes_by_rules AfterRun after_list

-- ---- runs from any tables
as_list : (t : Tables) (run : List (Applied Reply)) → Kept AppliesReply t run → SameAsList (λ reply. reply) AppliesReply applies_by_rules (header_of []) 0 t run
as_list t run k = same_as_list (λ reply. reply) AppliesReply applies_by_rules (header_of []) run 0 t k

pub ggfs_stay : GgfsStay
ggfs_stay t run k = subst (GgfsKept t) (as_list t run k).tables (ggf_never_lost t (calls run))

pub struck : Struck
struck t run accepted k a e =
    let all = as_list t run k in
    let some = as_list t accepted a in
    let is : accepted_calls t (calls run) ≡ calls accepted = all.accepted ∙ sym e in
    let both = striking_changes_nothing t (calls run) in (
      subst₂ SameLedger all.tables (ap (after t) is ∙ some.tables) both.0,
      sym all.lines ∙ both.1 ∙ ap (log t) is ∙ some.lines,
    )

-- ---- replay
pub replays_alike : ReplaysAlike
replays_alike = runs_alike (λ reply. reply) MakesReply AppliesReply makes_by_rules applies_by_rules

pub recovers : Recovers
recovers = runs_recover (λ reply. reply) MakesReply AppliesReply makes_by_rules applies_by_rules

pub surplus_stays : SurplusStays
surplus_stays = runs_leave_surplus (λ reply. reply) MakesReply AppliesReply makes_by_rules applies_by_rules
