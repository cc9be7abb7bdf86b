-- What a routine takes of the listings of BLANKS, PREFIX and DIGITS.
use Rattle.psx_flow.proofs.Kit.{◌≡◌, ℕ, ◌+◌, ◌≤◌, ◌++◌, List, [], ◌∷◌, refl, Memory, Registers, Cop0, Access, calls, fair, Tree, kernel_words, Part, Anew, Calling, Count, run}
use Rattle.std.proofs.Common.{Bool}
use Rattle.psx_base.specs.KernelState.{KernelState}
use Rattle.psx_cpu.specs.Words.{truth}
use Rattle.psx_flow.specs.Told.{ports}
use Rattle.psx_flow.proofs.Knows.{first_call, later_call}
use Rattle.abs_kernel.specs.Stay.{Stay}
use Rattle.abs_kernel.specs.UserBytes.{longest}
use Rattle.abs_kernel.specs.Strtol.{passes_blanks, takes_sign, takes_prefix, tells_rest}
use Rattle.kern_stay.specs.declared.room.TheConstants.{ROOM_NODES}
use Rattle.kern_stay.specs.Shared.{tree, tested_there}
use Rattle.kern_stay.specs.Doors.{Holds, most_steps}
use Rattle.kern_stay.proofs.RoomLeft.{Span}
use Rattle.kern_stay.proofs.Ending.{Left}
use Rattle.kern_text.specs.declared.places.TheConstants.{ROOM, BLANKS, PREFIX, DIGITS}
use Rattle.kern_text.specs.declared.blanks.TheConstants.{BLANKS_NODES}
use Rattle.kern_text.specs.declared.prefix.TheConstants.{PREFIX_NODES}
use Rattle.kern_text.specs.declared.digits.TheConstants.{DIGITS_NODES}
use Rattle.kern_text.specs.NumberOwn.{number_own}
use Rattle.kern_text.proofs.BlanksPassed as blanks
use Rattle.kern_text.proofs.DigitsTaken as digits
use Rattle.kern_text.proofs.PrefixTaken as prefix
use Rattle.kern_text.proofs.Peeking.{Peeks}
use Rattle.kern_text.proofs.NumberRead.{ending, digits as digits_from}

-- the listings behind ROOM, behind BLANKS and behind PREFIX
abbrev pub from_digits : List (ℕ × Tree)
from_digits = (DIGITS, tree DIGITS_NODES) ∷ tested_there

abbrev pub from_prefix : List (ℕ × Tree)
from_prefix = (PREFIX, tree PREFIX_NODES) ∷ from_digits

abbrev pub from_blanks : List (ℕ × Tree)
from_blanks = (BLANKS, tree BLANKS_NODES) ∷ from_prefix

module _ (stay : Stay) (s : KernelState) (m : Memory) (holds : Holds s m) (a n stop : ℕ) (span : Span a n stop 1) (short : n ≤ longest) where
  pub passing : (next : Bool → ℕ → ℕ → Stay) (c : Registers) (z : Cop0) (q : List Access) (p : Count) (k : Part) (most : ℕ) → c.r14 ≡ stop → c.r8 ≡ a
      → Left most_steps stay (passes_blanks longest s c.r8 (takes_sign s next)) most → p.steps + 450 ≤ most → ports q ≡ []
      → ((d : Registers) (z : Cop0) (q : List Access) (p : Count) → ports q ≡ [] → blanks.Signed stay s next a n stop c d p → k d z m [] q p)
      → Calling (calls kernel_words (number_own ++ tested_there)) BLANKS c.r31 k c z m [] q p
  passing next c z q p k most c14 begin left few quiet known = record {
    called = λ ok. later_call BLANKS (ROOM, tree ROOM_NODES) from_blanks c.r31 (Anew k) (run c z m [] q p) refl
        (first_call BLANKS (tree BLANKS_NODES) from_prefix c.r31 (Anew k) (run c z m [] q p) refl
        (blanks.goes (calls kernel_words from_prefix) (fair kernel_words from_prefix) stay s m holds next a n stop span c c14 k known z q p most begin short left few quiet));
  }

  pub choosing : (minus : Bool) (end : ℕ) (c : Registers) (z : Cop0) (q : List Access) (p : Count) (k : Part) (most : ℕ) → c.r14 ≡ stop → c.r2 ≡ 0 → c.r13 ≡ a → c.r6 ≤ 36
      → Peeks stay s (takes_prefix s c.r6 (digits_from s a end minus)) a n stop c.r8 most → p.steps + 380 ≤ most → ports q ≡ []
      → ((d : Registers) (z : Cop0) (q : List Access) (p : Count) → ports q ≡ [] → prefix.Chosen stay s end minus a n stop c d p → k d z m [] q p)
      → Calling (calls kernel_words (number_own ++ tested_there)) PREFIX c.r31 k c z m [] q p
  choosing minus end c z q p k most c14 c2 c13 base seen few quiet known = record {
    called = λ ok. later_call PREFIX (ROOM, tree ROOM_NODES) from_blanks c.r31 (Anew k) (run c z m [] q p) refl
        (later_call PREFIX (BLANKS, tree BLANKS_NODES) from_prefix c.r31 (Anew k) (run c z m [] q p) refl
        (first_call PREFIX (tree PREFIX_NODES) from_digits c.r31 (Anew k) (run c z m [] q p) refl
        (prefix.goes (calls kernel_words from_digits) (fair kernel_words from_digits) stay s m holds end minus a n stop span short c c14 c2 c13 k known z q p most base seen few quiet)));
  }

  pub taking : (minus : Bool) (end : ℕ) (c : Registers) (z : Cop0) (q : List Access) (p : Count) (k : Part) (i most : ℕ) → c.r14 ≡ stop → c.r15 ≡ truth minus → c.r6 ≤ 36
      → digits.Ready stay s c.r6 (ending s end minus) a n stop i c.r8 c.r2 c.r13 most → p.steps + 250 ≤ most → ports q ≡ []
      → ((d : Registers) (z : Cop0) (q : List Access) (p : Count) → ports q ≡ [] → digits.Taken stay s (tells_rest s end) c d p → k d z m [] q p)
      → Calling (calls kernel_words (number_own ++ tested_there)) DIGITS c.r31 k c z m [] q p
  taking minus end c z q p k i most c14 c15 base ready few quiet known = record {
    called = λ ok. later_call DIGITS (ROOM, tree ROOM_NODES) from_blanks c.r31 (Anew k) (run c z m [] q p) refl
        (later_call DIGITS (BLANKS, tree BLANKS_NODES) from_prefix c.r31 (Anew k) (run c z m [] q p) refl
        (later_call DIGITS (PREFIX, tree PREFIX_NODES) from_digits c.r31 (Anew k) (run c z m [] q p) refl
        (first_call DIGITS (tree DIGITS_NODES) tested_there c.r31 (Anew k) (run c z m [] q p) refl
        (digits.goes (calls kernel_words tested_there) (fair kernel_words tested_there) stay s m holds minus (tells_rest s end) a n stop span c c14 c15 base k known z q p i most ready few quiet))));
  }
