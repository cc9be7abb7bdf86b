-- The bytes of a text, from its address up to the first that isn't user memory, and that one.
use Rattle.std.proofs.Common.{ℕ, ◌+◌, ◌%◌, ◌^◌, ◌<◌, ◌≤◌, arith}
use Rattle.abs_kernel.specs.UserBytes.{longest}
use Rattle.kern_stay.specs.Room.{room}
use Rattle.kern_stay.proofs.RoomLeft.{Span, span_some, room_few}

abbrev pub bytes_from : ℕ → ℕ
bytes_from a = room a + 1

abbrev pub end_from : ℕ → ℕ
end_from a = (a + room a) % 2 ^ 32

pub text_span : (a : ℕ) → a < 2 ^ 32 → Span a (bytes_from a) (end_from a) 1
text_span a small = span_some a (bytes_from a) 1 small (λ e. absurd (omega (arith, e))) (omega arith)

pub text_short : (a : ℕ) → bytes_from a ≤ longest
unfolding longest
text_short a = let h = room_few a in omega (arith, h)
