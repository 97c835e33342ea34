-- Every call leaves the line table past its lines, and the book past its orders. Assumes nothing.
use mathlib.Core.Path.{refl}
use Rattle.accounts.proofs.EachKind.{every_call}
use Rattle.replay.specs.Surplus.{LinesUntouched, BookUntouched}
use Rattle.replay.specs.Replay.{LinesStay, BookStays}
use Rattle.replay.proofs.KindsReplay.{kind_replays}

pub lines_stay : LinesStay
lines_stay = every_call LinesUntouched (λ t a q i h. refl) (λ e t legs u q n. ((kind_replays e t legs u q).leaves n).lines)

pub book_stays : BookStays
book_stays = every_call BookUntouched (λ t a q i h. refl) (λ e t legs u q n. ((kind_replays e t legs u q).leaves n).book)
