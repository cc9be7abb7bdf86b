-- The program is one that a file is read as.
use Rattle.std.proofs.Common.{◌≡◌, ℕ, ◌+◌, ◌++◌, length, drop, true, None, Ok, refl, sym, ap, ◌∙◌, subst, arith, nat_eq}
use Rattle.std.specs.List.{starts_with}
use Rattle.std.proofs.Math.Seq.{drop-append_seam, take-length}
use Rattle.psx_base.specs.Addresses.{user}
use Rattle.psx_base.specs.Addresses as addresses
use Rattle.psx_base.specs.FirstBad.{first_bad_of}
use Rattle.psx_exe.specs.Faults.{mark}
use Rattle.psx_exe.specs.Header.{header_of}
use Rattle.psx_exe.specs.Reading.{IsReadable, program_of, text_of}
use Rattle.psx_exe.specs.Writing.{IsSmall, header_for, written, padding}
use Rattle.psx_exe.specs.declared.exe.Exe.{Exe}
use Rattle.psx_exe.specs.declared.header.Header.{Header}
use Rattle.psx_exe.proofs.Accepted.{IsAccepted, IsSound}
use Rattle.psx_exe.proofs.Written.{header_of-written, length-written, length-padding, read_of-ok}
use Rattle.psx_gen.specs.Workload.{program, text}

small : (rounds : ℕ) → IsSmall (header_for (program rounds))
small rounds = record { pc = omega arith; gp = omega arith; dest = omega arith; size = omega arith; fill_start = omega arith; fill_size = omega arith; sp_base = omega arith; sp_offset = omega arith }

marked : (e : Exe) → starts_with nat_eq (written e) mark ≡ true
unfolding written
marked e = refl

drop-written : (e : Exe) → drop 0x800 (written e) ≡ e.text
unfolding written
drop-written e = ap (λ (n : ℕ). drop n (padding ++ e.text)) (sym length-padding) ∙ drop-append_seam padding e.text

in_user_memory : first_bad_of 0x80010000 460 ≡ None
unfolding addresses.user
in_user_memory = refl

begins : user 0x80010000 ≡ true
unfolding addresses.user
begins = refl

sound : (rounds len : ℕ) → len ≡ 0x800 + 460 → IsSound (header_for (program rounds)) len
sound rounds len is = record { text = in_user_memory; whole = omega (arith, is); fill = refl; start = begins }

accepted : (rounds : ℕ) → IsAccepted (written (program rounds))
accepted rounds =
    let len = length-written (program rounds) in
    record {
      limit = omega (arith, len);
      header = omega (arith, len);
      marked = marked (program rounds);
      sound = subst (λ (h : Header). IsSound h (length (written (program rounds)))) (sym (header_of-written (program rounds) (small rounds))) (sound rounds _ len);
    }

read : (rounds : ℕ) → program_of (header_of (written (program rounds))) (text_of (written (program rounds))) ≡ program rounds
read rounds = rw (header_of-written (program rounds) (small rounds), drop-written (program rounds), take-length (text rounds)) refl

pub readable : (rounds : ℕ) → IsReadable (program rounds)
readable rounds = record { bytes = written (program rounds); read = read_of-ok (written (program rounds)) (accepted rounds) ∙ ap Ok (read rounds) }
