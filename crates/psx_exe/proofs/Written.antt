-- The file of a program is read as the program.
use Rattle.std.proofs.Common.{◌≡◌, ℕ, ◌+◌, ◌-◌, ◌≤◌, List, ◌++◌, length, take, drop, true, Option, Some, None, Result, Ok, Err, refl, sym, ap, ◌∙◌, subst, arith, nat_eq, length-append, length-drop, replicate}
use Rattle.std.specs.List.{starts_with}
use Rattle.std.proofs.lemmas.List.{length-replicate, length-take-le, take_all}
use Rattle.std.proofs.Math.Seq.{drop-append_seam, take-length}
use Rattle.byteorder.specs.Numbers.{little_number-reads_back}
use Rattle.psx_exe.specs.Header.{header_of}
use Rattle.psx_exe.specs.declared.header.Header.{Header}
use Rattle.psx_exe.specs.declared.exe.Exe.{Exe}
use Rattle.psx_exe.specs.declared.fault.ExeError.{ExeError}
use Rattle.psx_exe.specs.Faults.{mark, first_fault}
use Rattle.psx_exe.specs.Reading.{program_of, text_of, read_of}
use Rattle.psx_exe.specs.Writing.{IsSmall, named_bytes, padding, header_for, written}
use Rattle.psx_exe.proofs.Accepted.{IsAccepted, IsSound, accepted, accepted-none}

-- a record of equal numbers
same_header : (h k : Header) → h.pc ≡ k.pc → h.gp ≡ k.gp → h.dest ≡ k.dest → h.size ≡ k.size → h.fill_start ≡ k.fill_start → h.fill_size ≡ k.fill_size → h.sp_base ≡ k.sp_base → h.sp_offset ≡ k.sp_offset → h ≡ k
same_header h k a b c d e f g i =
    subst (λ (x : ℕ). h ≡ record k { pc = x }) a
    (subst (λ (x : ℕ). h ≡ record k { pc = h.pc; gp = x }) b
    (subst (λ (x : ℕ). h ≡ record k { pc = h.pc; gp = h.gp; dest = x }) c
    (subst (λ (x : ℕ). h ≡ record k { pc = h.pc; gp = h.gp; dest = h.dest; size = x }) d
    (subst (λ (x : ℕ). h ≡ record k { pc = h.pc; gp = h.gp; dest = h.dest; size = h.size; fill_start = x }) e
    (subst (λ (x : ℕ). h ≡ record k { pc = h.pc; gp = h.gp; dest = h.dest; size = h.size; fill_start = h.fill_start; fill_size = x }) f
    (subst (λ (x : ℕ). h ≡ record h { sp_offset = k.sp_offset; sp_base = x }) g
    (subst (λ (x : ℕ). h ≡ record h { sp_offset = x }) i refl)))))))

-- the numbers are read as they were written
pub header_of-named : (h : Header) (rest : List ℕ) → IsSmall h → header_of (named_bytes h ++ rest) ≡ h
unfolding header_of
header_of-named h rest s =
    same_header (header_of (named_bytes h ++ rest)) h
    (little_number-reads_back 4 h.pc (drop 0x14 (named_bytes h ++ rest)) s.pc)
    (little_number-reads_back 4 h.gp (drop 0x18 (named_bytes h ++ rest)) s.gp)
    (little_number-reads_back 4 h.dest (drop 0x1C (named_bytes h ++ rest)) s.dest)
    (little_number-reads_back 4 h.size (drop 0x20 (named_bytes h ++ rest)) s.size)
    (little_number-reads_back 4 h.fill_start (drop 0x2C (named_bytes h ++ rest)) s.fill_start)
    (little_number-reads_back 4 h.fill_size (drop 0x30 (named_bytes h ++ rest)) s.fill_size)
    (little_number-reads_back 4 h.sp_base (drop 0x34 (named_bytes h ++ rest)) s.sp_base)
    (little_number-reads_back 4 h.sp_offset (drop 0x38 (named_bytes h ++ rest)) s.sp_offset)

pub length-padding : length padding ≡ 1992
unfolding padding
length-padding = length-replicate {A = ℕ} 1992 0

-- the parts of a file of a program
pub length-written : (e : Exe) → length (written e) ≡ 0x800 + length e.text
unfolding written
length-written e =
    let pad = length-padding in
    omega (arith, length-append (named_bytes (header_for e) ++ padding) e.text, length-append (named_bytes (header_for e)) padding)

drop-written : (e : Exe) → drop 0x800 (written e) ≡ e.text
unfolding written
drop-written e = ap (λ (n : ℕ). drop n (padding ++ e.text)) (sym length-padding) ∙ drop-append_seam padding e.text

pub header_of-written : (e : Exe) → IsSmall (header_for e) → header_of (written e) ≡ header_for e
unfolding written
header_of-written e s = header_of-named (header_for e) (padding ++ e.text) s

marked-written : (e : Exe) → starts_with nat_eq (written e) mark ≡ true
unfolding written
marked-written e = refl

-- what was read
read_ok : (o : Option ExeError) (p e : Exe) → (let r : Result Exe ExeError = elim o [ Some f ↦ Err f | None ↦ Ok p ] in r) ≡ Ok e → o ≡ None
read_ok None p e h = refl
read_ok (Some f) p e h = cc

read_as : (o : Option ExeError) (p e : Exe) → (let r : Result Exe ExeError = elim o [ Some f ↦ Err f | None ↦ Ok p ] in r) ≡ Ok e → p ≡ e
read_as None p e h = cc
read_as (Some f) p e h = cc

pub read_of-accepted : (q : List ℕ) (e : Exe) → read_of q ≡ Ok e → IsAccepted q
unfolding read_of
read_of-accepted q e h = accepted q (read_ok (first_fault q) (program_of (header_of q) (text_of q)) e h)

pub read_of-program : (q : List ℕ) (e : Exe) → read_of q ≡ Ok e → program_of (header_of q) (text_of q) ≡ e
unfolding read_of
read_of-program q e h = read_as (first_fault q) (program_of (header_of q) (text_of q)) e h

-- what an accepted file is read as
as_read : (o : Option ExeError) (p : Exe) → o ≡ None → (let r : Result Exe ExeError = elim o [ Some f ↦ Err f | None ↦ Ok p ] in r) ≡ Ok p
as_read None p h = refl
as_read (Some f) p h = cc

pub read_of-ok : (q : List ℕ) → IsAccepted q → read_of q ≡ Ok (program_of (header_of q) (text_of q))
unfolding read_of
read_of-ok q a = as_read (first_fault q) (program_of (header_of q) (text_of q)) (accepted-none q a)

-- the text of a program has as many bytes as the header says
pub length-text_of : (q : List ℕ) → IsAccepted q → length (text_of q) ≡ (header_of q).size
length-text_of q a =
    let whole = a.sound.whole in
    length-take-le (header_of q).size (drop 0x800 q) (simp length-drop (omega arith))

-- so the header of its file is the one that was read
header_for-program : (q : List ℕ) → IsAccepted q → header_for (program_of (header_of q) (text_of q)) ≡ header_of q
header_for-program q a = ap (λ (n : ℕ). record (header_of q) { size = n }) (length-text_of q a)

-- the file of a program that was read has no fault
accepted-written : (q : List ℕ) (e : Exe) → IsSmall (header_for e) → IsAccepted q → program_of (header_of q) (text_of q) ≡ e → IsAccepted (written e)
accepted-written q e s a same =
    let of_file = header_of-written e s in
    let of_read : header_of q ≡ header_for e = sym (header_for-program q a) ∙ ap header_for same in
    let len = length-written e in
    let size : length e.text ≡ (header_of q).size = ap (λ (h : Header). h.size) (sym of_read) in
    let limit = a.limit in
    let whole = a.sound.whole in
    record {
      limit = omega arith;
      header = omega arith;
      marked = marked-written e;
      sound = subst (λ (h : Header). IsSound h (length (written e))) (sym of_file)
          (subst (λ (h : Header). IsSound h (length (written e))) of_read (record { text = a.sound.text; whole = omega arith; fill = a.sound.fill; start = a.sound.start }));
    }

-- it is read as the program
written-program : (e : Exe) → IsSmall (header_for e) → program_of (header_of (written e)) (text_of (written e)) ≡ e
written-program e s =
    rw (header_of-written e s, drop-written e, take-length e.text) refl

pub read_of-written : (q : List ℕ) (e : Exe) → IsSmall (header_for e) → read_of q ≡ Ok e → read_of (written e) ≡ Ok e
read_of-written q e s h =
    let a = read_of-accepted q e h in
    read_of-ok (written e) (accepted-written q e s a (read_of-program q e h)) ∙ ap Ok (written-program e s)

-- the zeros behind the named bytes
pub padded : (xs : List ℕ) (n : ℕ) → length xs ≡ 0x38 → n ≡ 0x38 → take 0x800 xs ++ replicate (0x800 - n) 0 ≡ xs ++ padding
unfolding padding
padded xs n h k =
    let short : length xs ≤ 0x800 = omega arith in
    let rest : 0x800 - n ≡ 1992 = omega arith in
    rw (take_all 0x800 xs short, rest) refl
