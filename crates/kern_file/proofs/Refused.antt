-- What the calls on closed files answer.
use Rattle.std.proofs.Common.{ℕ, ◌%◌, ◌^◌, length, refl, ap, arith, ⊎_elim, get_or-set_same}
use Rattle.std.specs.Prelude.{is_some, None, if◌then◌else◌, slice_set}
use Rattle.std.proofs.lemmas.Bool.{cases_lt}
use Rattle.std.proofs.lemmas.List.{get_or_past, length-set}
use Rattle.abs_kernel.specs.Stay.{Write}
use Rattle.abs_kernel.specs.Answered.{registers_of, answered}
use Rattle.abs_kernel.specs.UserBytes.{count_of}
use Rattle.abs_kernel.specs.Files.{is_readable, is_writable, with_file, refuses, bad_file}
use Rattle.abs_kernel.specs.ReadFile.{read_bytes}
use Rattle.abs_kernel.specs.Getchar.{getchar}
use Rattle.abs_kernel.specs.WriteFile.{write_bytes}
use Rattle.kern_file.specs.CallLaws.{ClosedRefuses, NoneThere, ErrorAnswered}

pub closed_refuses : ClosedRefuses
closed_refuses s =
    let r = registers_of s in
    let n : ℕ = count_of r.r6 in
    let c : ℕ = r.r4 % 2 ^ 8 in (
      λ e. (
        ap (λ f. if is_some f then answered (with_file s r.r4 None) r.r4 else refuses s bad_file) e,
        ap (λ f. if is_readable f then read_bytes n s r.r5 0 else refuses s bad_file) e,
        ap (λ f. if is_writable f then write_bytes n s r.r5 n else refuses s bad_file) e,
        ap (λ f. if is_readable f then getchar s else refuses s bad_file) e,
      ),
      λ e. ap (λ f. if is_writable f then Write c (answered s c) else refuses s bad_file) e,
    )

pub none_there : NoneThere
none_there s f = (
  λ le. get_or_past s.files f None le,
  ⊎_elim (λ lt. get_or-set_same s.files f None None lt) (λ le. get_or_past (slice_set s.files f None) f None (omega (arith, le, length-set s.files f None))) (cases_lt f (length s.files)),
)

pub error_answered : ErrorAnswered
error_answered s error = refl
