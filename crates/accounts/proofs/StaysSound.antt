-- Sound tables stay sound under every accepted record but a close of day; after a close only their rows can be unsound. That they can is
-- computed in rule_examples, `damaged_by_a_close`.
use mathlib.Core.Path.{◌≡◌, refl, sym, ap, subst, ◌∙◌}
use mathlib.Core.Bool.{Bool, true, false, not, ◌&&◌, ◌||◌}
use Prim.Native.Nat.{◌≤◌}
use native.Mathlib.Omega.{arith}
use lib.ListN.{length}
use borrow.Author.Tests.{le-ltb}
use Rattle.arith.specs.Lists.{all_of}
use Rattle.rules.specs.declared.event.Event.{Event}
use Rattle.rules.specs.Answers.{Outcome}
use Rattle.rules.specs.Ledger.{Tables, lines_length, lines_short}
use Rattle.rules.specs.Records.{is_close_of_day}
use Rattle.rules.specs.Refusals.{head_sound, prices_sound, rows_sound, book_sound, damaged, ledger_unsound, unsound, kind_booked}
use Rattle.rules.proofs.SoundTables.{Long, not_short, Undamaged, undamaged}
use Rattle.accounts.specs.StaysSound.{closed_by, StaysSound, OnlyRowsChange}
use Rattle.accounts.proofs.EachKind.{kind_decides, every_call, every_reading}
use Rattle.accounts.proofs.SameLengths.{stays_long}
use Rattle.accounts.proofs.Bounds.{RowsWithin, rows_sound_holds, rows_give}
use Rattle.accounts.proofs.RowsStay.{Posts, rows_posted}
use Rattle.accounts.proofs.KindsKeep.{RowsMove, Keeps, kind_keeps}

-- tables of sufficient length whose head, prices and book are sound are as sound as their rows
by_rows : (t : Tables) → Long t → lines_length ≤ length t.lines → head_sound t ≡ true → prices_sound t ≡ true → book_sound t ≡ true → unsound t ≡ not (rows_sound t)
unfolding unsound ledger_unsound damaged lines_short all_of
by_rows t l k h p b = rw (not_short t l, le-ltb (length t.lines) lines_length k, h, p, b) (go (rows_sound t))
  where
    go : (r : Bool) → not (r && true) || false ≡ not r
    go true = refl
    go false = refl

keeps_by_rows : (e : Event) (t : Tables) (o : Outcome Tables) → Undamaged t → Keeps e t o → unsound o.after ≡ not (rows_sound o.after)
keeps_by_rows e t o u k = by_rows o.after (stays_long k.fits.lengths u.long) (omega (arith, k.fits.lengths.lines, u.lines)) k.head k.prices k.book.sound

each_row : (t : Tables) → Undamaged t → RowsWithin t
each_row t u = rows_give t u.head.members_range.to u.long.lots u.long.value u.rows_sound_holds

keeps_sound : (e : Event) (t : Tables) (o : Outcome Tables) → Undamaged t → Keeps e t o → is_close_of_day e ≡ false → unsound o.after ≡ false
keeps_sound e t o u k c =
    let posts : Posts t o = subst (λ b. RowsMove b t o) c k.rows in
    keeps_by_rows e t o u k ∙ ap not (rows_sound_holds o.after (rows_posted t o posts (each_row t u)))

pub stays_sound : StaysSound
stays_sound =
    every_reading (λ x t o. unsound t ≡ false → closed_by x o.answer ≡ false → unsound o.after ≡ false) (λ x t a q e c. e)
    (λ e t legs u q n _ c. keeps_sound e t (kind_booked t e legs) u (kind_keeps e t legs u q n) (ap (λ b. b && is_close_of_day e) (sym (kind_decides t e legs).accepted) ∙ c))

pub only_rows_change : OnlyRowsChange
only_rows_change =
    every_call (λ t o. unsound t ≡ false → unsound o.after ≡ not (rows_sound o.after)) (λ t a q e. e ∙ ap not (sym (undamaged t e).rows_sound_holds))
    (λ e t legs u q n _. keeps_by_rows e t (kind_booked t e legs) u (kind_keeps e t legs u q n))
