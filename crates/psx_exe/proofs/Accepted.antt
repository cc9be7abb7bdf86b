-- What is known of a file without a fault, and that nothing else is needed.
use Rattle.std.proofs.Common.{◌≡◌, ℕ, ◌+◌, ◌%◌, ◌≤◌, List, [], ◌∷◌, length, true, false, Bool, Option, Some, None, refl, arith, nat_eq, nat_lt}
use Rattle.std.specs.Prelude.{◌&&◌, if◌then◌else◌}
use Rattle.std.specs.List.{starts_with}
use Rattle.psx_base.specs.Addresses.{user}
use Rattle.psx_base.specs.FirstBad.{first_bad_of}
use Rattle.psx_exe.specs.Header.{header_of}
use Rattle.psx_exe.specs.declared.header.Header.{Header}
use Rattle.psx_exe.specs.declared.fault.ExeError.{ExeError}
use Rattle.psx_exe.specs.declared.fault.ExeError.TheVariants.{TooLong, Short, NoMark, TextRange, Truncated, FillRange, BadPc, Memory}
use Rattle.psx_exe.specs.Faults.{mark, too_long, short, no_mark, text_range, truncated, fill_range, bad_pc, first_of, header_fault, first_fault}

-- a header without a fault in a file of so many bytes
pub record IsSound (h : Header) (len : ℕ) : Type 0 where
  pub text : first_bad_of h.dest h.size ≡ None
  pub whole : 0x800 + h.size ≤ len
  pub fill : first_bad_of h.fill_start h.fill_size ≡ None
  pub start : (nat_eq (h.pc % 4) 0 && user h.pc) ≡ true

-- a file without a fault
pub record IsAccepted (bytes : List ℕ) : Type 0 where
  pub limit : length bytes ≤ 0x800000
  pub header : 0x800 ≤ length bytes
  pub marked : starts_with nat_eq bytes mark ≡ true
  pub sound : IsSound (header_of bytes) (length bytes)

-- none of a list stands where none is the first
first_of-head : (x : Option ExeError) (xs : List (Option ExeError)) → first_of (x ∷ xs) ≡ None → x ≡ None
first_of-head None xs h = refl
first_of-head (Some e) xs h = h

first_of-tail : (x : Option ExeError) (xs : List (Option ExeError)) → first_of (x ∷ xs) ≡ None → first_of xs ≡ None
first_of-tail None xs h = h
first_of-tail (Some e) xs h = cc

not_bad : (o : Option ℕ) (f : ℕ → ExeError) → (let r : Option ExeError = elim o [ Some at ↦ Some (f at) | None ↦ None ] in r) ≡ None → o ≡ None
not_bad None f h = refl
not_bad (Some at) f h = cc

tested : (b : Bool) (e : ExeError) → (if b then None else Some e) ≡ None → b ≡ true
tested true e h = refl
tested false e h = cc

not_below : (m n : ℕ) (e : ExeError) → (if nat_lt m n then Some e else None) ≡ None → n ≤ m
not_below m n e h = grind arith

-- what is known of a header without a fault
pub sound : (h : Header) (len : ℕ) → header_fault h len ≡ None → IsSound h len
sound h len none =
    let later : first_of (truncated h len ∷ fill_range h ∷ bad_pc h ∷ []) ≡ None = first_of-tail (text_range h) (truncated h len ∷ fill_range h ∷ bad_pc h ∷ []) none in
    let last : first_of (fill_range h ∷ bad_pc h ∷ []) ≡ None = first_of-tail (truncated h len) (fill_range h ∷ bad_pc h ∷ []) later in
    record {
      text = not_bad (first_bad_of h.dest h.size) TextRange (first_of-head (text_range h) (truncated h len ∷ fill_range h ∷ bad_pc h ∷ []) none);
      whole = not_below len (0x800 + h.size) (Truncated (0x800 + h.size)) (first_of-head (truncated h len) (fill_range h ∷ bad_pc h ∷ []) later);
      fill = not_bad (first_bad_of h.fill_start h.fill_size) FillRange (first_of-head (fill_range h) (bad_pc h ∷ []) last);
      start = tested (nat_eq (h.pc % 4) 0 && user h.pc) (BadPc h.pc) (first_of-head (bad_pc h) [] (first_of-tail (fill_range h) (bad_pc h ∷ []) last));
    }

-- what is known of a file without a fault
pub accepted : (bytes : List ℕ) → first_fault bytes ≡ None → IsAccepted bytes
unfolding first_fault
accepted bytes none =
    let len : ℕ = length bytes in
    let inner : Option ExeError = header_fault (header_of bytes) len in
    let later : first_of (short len ∷ no_mark bytes ∷ inner ∷ []) ≡ None = first_of-tail (too_long len) (short len ∷ no_mark bytes ∷ inner ∷ []) none in
    let last : first_of (no_mark bytes ∷ inner ∷ []) ≡ None = first_of-tail (short len) (no_mark bytes ∷ inner ∷ []) later in
    record {
      limit = not_below 0x800000 len (TooLong 0x800000) (first_of-head (too_long len) (short len ∷ no_mark bytes ∷ inner ∷ []) none);
      header = not_below len 0x800 Short (first_of-head (short len) (no_mark bytes ∷ inner ∷ []) later);
      marked = tested (starts_with nat_eq bytes mark) NoMark (first_of-head (no_mark bytes) (inner ∷ []) last);
      sound = sound (header_of bytes) len (first_of-head inner [] (first_of-tail (no_mark bytes) (inner ∷ []) last));
    }

-- a list of which the first stands not
first_of-none : (x : Option ExeError) (xs : List (Option ExeError)) → x ≡ None → first_of xs ≡ None → first_of (x ∷ xs) ≡ None
first_of-none x xs h k = rw h k

-- nothing else is needed of a header
pub sound-none : (h : Header) (len : ℕ) → IsSound h len → header_fault h len ≡ None
sound-none h len s =
    let text : text_range h ≡ None = rw (s.text, text_range) refl in
    let whole : truncated h len ≡ None = let w = s.whole in grind arith in
    let fill : fill_range h ≡ None = rw (s.fill, fill_range) refl in
    let start : bad_pc h ≡ None = rw s.start refl in
    first_of-none (text_range h) (truncated h len ∷ fill_range h ∷ bad_pc h ∷ []) text (first_of-none (truncated h len) (fill_range h ∷ bad_pc h ∷ []) whole (first_of-none (fill_range h) (bad_pc h ∷ []) fill (first_of-none (bad_pc h) [] start refl)))

-- nor of a file
pub accepted-none : (bytes : List ℕ) → IsAccepted bytes → first_fault bytes ≡ None
unfolding first_fault
accepted-none bytes a =
    let len : ℕ = length bytes in
    let inner : Option ExeError = header_fault (header_of bytes) len in
    let limit : too_long len ≡ None = let l = a.limit in grind arith in
    let header : short len ≡ None = let l = a.header in grind arith in
    let marked : no_mark bytes ≡ None = rw a.marked refl in
    first_of-none (too_long len) (short len ∷ no_mark bytes ∷ inner ∷ []) limit (first_of-none (short len) (no_mark bytes ∷ inner ∷ []) header (first_of-none (no_mark bytes) (inner ∷ []) marked (first_of-none inner [] (sound-none (header_of bytes) len a.sound) refl)))

-- want of memory is no fault of a file: a list without it has it not as the first
not_first : (x : Option ExeError) (xs : List (Option ExeError)) → (x ≡ Some Memory → ⊥) → (first_of xs ≡ Some Memory → ⊥) → first_of (x ∷ xs) ≡ Some Memory → ⊥
not_first None xs h k = k
not_first (Some e) xs h k = h

not_if : (b : Bool) (e : ExeError) → (e ≡ Memory → ⊥) → (if b then Some e else None) ≡ Some Memory → ⊥
not_if true e h k = h (let k' : Some e ≡ Some Memory = k in cc)
not_if false e h k = cc

not_unless : (b : Bool) (e : ExeError) → (e ≡ Memory → ⊥) → (if b then None else Some e) ≡ Some Memory → ⊥
not_unless true e h k = cc
not_unless false e h k = h (let k' : Some e ≡ Some Memory = k in cc)

not_at : (o : Option ℕ) (f : ℕ → ExeError) → ((at : ℕ) → f at ≡ Memory → ⊥) → (let r : Option ExeError = elim o [ Some at ↦ Some (f at) | None ↦ None ] in r) ≡ Some Memory → ⊥
not_at None f h k = cc
not_at (Some at) f h k = h at (let k' : Some (f at) ≡ Some Memory = k in cc)

pub not_memory : (bytes : List ℕ) → first_fault bytes ≡ Some Memory → ⊥
unfolding first_fault
not_memory bytes =
    let len : ℕ = length bytes in
    let h : Header = header_of bytes in
    let start : first_of (bad_pc h ∷ []) ≡ Some Memory → ⊥ = not_first (bad_pc h) [] (not_unless (nat_eq (h.pc % 4) 0 && user h.pc) (BadPc h.pc) (λ e. cc)) (λ e. cc) in
    let fill : first_of (fill_range h ∷ bad_pc h ∷ []) ≡ Some Memory → ⊥ = not_first (fill_range h) (bad_pc h ∷ []) (not_at (first_bad_of h.fill_start h.fill_size) FillRange (λ at e. cc)) start in
    let whole : first_of (truncated h len ∷ fill_range h ∷ bad_pc h ∷ []) ≡ Some Memory → ⊥ = not_first (truncated h len) (fill_range h ∷ bad_pc h ∷ []) (not_if (nat_lt len (0x800 + h.size)) (Truncated (0x800 + h.size)) (λ e. cc)) fill in
    let text : header_fault h len ≡ Some Memory → ⊥ = not_first (text_range h) (truncated h len ∷ fill_range h ∷ bad_pc h ∷ []) (not_at (first_bad_of h.dest h.size) TextRange (λ at e. cc)) whole in
    let inner : first_of (header_fault h len ∷ []) ≡ Some Memory → ⊥ = not_first (header_fault h len) [] text (λ e. cc) in
    let marked : first_of (no_mark bytes ∷ header_fault h len ∷ []) ≡ Some Memory → ⊥ = not_first (no_mark bytes) (header_fault h len ∷ []) (not_unless (starts_with nat_eq bytes mark) NoMark (λ e. cc)) inner in
    let header : first_of (short len ∷ no_mark bytes ∷ header_fault h len ∷ []) ≡ Some Memory → ⊥ = not_first (short len) (no_mark bytes ∷ header_fault h len ∷ []) (not_if (nat_lt len 0x800) Short (λ e. cc)) marked in
    not_first (too_long len) (short len ∷ no_mark bytes ∷ header_fault h len ∷ []) (not_if (nat_lt 0x800000 len) (TooLong 0x800000) (λ e. cc)) header
