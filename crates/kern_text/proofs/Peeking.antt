-- An address to which a listing has come in a text: the first that isn't user memory, or one whose byte is known and what follows it.
use Rattle.psx_flow.proofs.Kit.{◌≡◌, ℕ, ◌+◌, arith, byte, place}
use Rattle.psx_base.specs.KernelState.{KernelState}
use Rattle.abs_kernel.specs.Stay.{Stay}
use Rattle.abs_kernel.specs.UserBytes.{reads_byte, bad_pointer}
use Rattle.kern_stay.specs.Doors.{most_steps}
use Rattle.kern_stay.proofs.RoomLeft.{Span}
use Rattle.kern_stay.proofs.Ending.{Left, left_read, left_unread}
use Rattle.kern_stay.proofs.Cursor.{Cursor, coming, done_bad}

pub record Peeks (stay : Stay) (s : KernelState) (next : ℕ → ℕ → Stay) (a n stop x most : ℕ) : Type 0 where
  pub to_come : ℕ
  pub cursor : Cursor a n stop to_come x
  pub bad : x ≡ stop → Left most_steps stay (bad_pointer s x) most
  pub good : (x ≡ stop → ⊥) → Left most_steps stay (next x (byte s.memory (place x))) most

-- where it is read
pub peeked : (stay : Stay) (s : KernelState) (next : ℕ → ℕ → Stay) (a n stop k x most : ℕ) → Span a n stop 1 → Cursor a n stop k x → Left most_steps stay (reads_byte s x (next x)) most
    → Peeks stay s next a n stop x (most + 128)
peeked stay s next a n stop k x most span cursor l = record {
  to_come = k;
  cursor = cursor;
  bad = λ e. left_unread stay s x (next x) most (done_bad a n stop 1 k x span cursor e (λ z. absurd (omega (arith, z)))).user l;
  good = λ ne. left_read stay s x (next x) most (coming a n stop 1 k x span cursor ne).user l;
}
