-- Calls that only read leave all but their answer.
use Rattle.std.proofs.Common.{◌≡◌, ℕ, zero, suc, ◌+◌, ◌%◌, ◌^◌, Bool, true, false, refl}
use Rattle.std.specs.Prelude.{◌-◌, [], ◌∷◌, nat_eq, ◌||◌, if◌then◌else◌}
use Rattle.psx_base.specs.declared.stop.Stop.{Stop}
use Rattle.psx_base.specs.Addresses.{place, user}
use Rattle.psx_base.specs.Memory.{Memory, byte}
use Rattle.psx_base.specs.KernelState.{KernelState}
use Rattle.abs_kernel.specs.Stay.{Stay}
use Rattle.abs_kernel.specs.StayLaws.{EachEnd}
use Rattle.abs_kernel.specs.Answered.{registers_of, answered}
use Rattle.abs_kernel.specs.UserBytes.{count_of, following, longest}
use Rattle.abs_kernel.specs.Memchr.{find_byte, memchr}
use Rattle.abs_kernel.specs.Memcmp.{compare_bytes, memcmp}
use Rattle.abs_kernel.specs.Strlen.{count_bytes, strlen}
use Rattle.abs_kernel.specs.Strcmp.{compare_texts, strcmp, strncmp}
use Rattle.abs_kernel.specs.Strchr.{find_first, strchr}
use Rattle.abs_kernel.specs.Strrchr.{find_last, strrchr}
use Rattle.abs_kernel.specs.ByteSets.{in_set, skips}
use Rattle.abs_kernel.specs.Strpbrk.{strpbrk}
use Rattle.abs_kernel.specs.Strspn.{strspn}
use Rattle.abs_kernel.specs.Strcspn.{strcspn}
use Rattle.abs_kernel.specs.Strstr.{stands, find_text, strstr}
use Rattle.abs_kernel.specs.declared.calls.CallId.TheVariants.{A20, A21, A22, A24, A25, A26, A29, A2D, A2E, A44}
use Rattle.abs_kernel.specs.Calls.{call}
use Rattle.kern_mem.specs.Laws.{AnswerAlone, Each, ReadingKeeps}

module _ (s : KernelState) where
  abbrev SameAtStop : Stop → Memory → Type 0
  SameAtStop stop memory = memory ≡ s.memory

  abbrev Keeps : Stay → Type 0
  Keeps stay = EachEnd (AnswerAlone s) SameAtStop stay

  answer : (value : ℕ) → Keeps (answered s value)
  answer value = refl

  either : (b : Bool) (x y : Stay) → Keeps x → Keeps y → Keeps (if b then x else y)
  either true x y h g = h
  either false x y h g = g

  found : (n at c : ℕ) → Keeps (find_byte n s at c)
  found zero at c = answer 0
  found (suc n) at c = either (user at) _ _ (either (nat_eq (byte s.memory (place at)) c) _ _ (answer at) (found n (following at) c)) refl

  counted : (n at count : ℕ) → Keeps (count_bytes n s at count)
  counted zero at count = refl
  counted (suc n) at count = either (user at) _ _ (either (nat_eq (byte s.memory (place at)) 0) _ _ (answer count) (counted n (following at) (count + 1))) refl

  compared : (n a b : ℕ) → Keeps (compare_bytes n s a b)
  compared zero a b = answer 0
  compared (suc n) a b =
      either (user a) _ _ (either (user b) _ _ (either (nat_eq (byte s.memory (place a)) (byte s.memory (place b))) _ _ (compared n (following a) (following b)) (answer _)) refl) refl

  texts_compared : (n a b : ℕ) → Keeps (compare_texts n s a b)
  texts_compared zero a b = answer 0
  texts_compared (suc n) a b =
      let x = byte s.memory (place a) in
      let next = texts_compared n (following a) (following b) in
      either (user a) _ _ (either (user b) _ _ (either (nat_eq x (byte s.memory (place b))) _ _ (either (nat_eq x 0) _ _ (answer 0) next) (answer _)) refl) refl

  first_found : (n at c : ℕ) → Keeps (find_first n s at c)
  first_found zero at c = refl
  first_found (suc n) at c =
      let b = byte s.memory (place at) in
      either (user at) _ _ (either (nat_eq b c) _ _ (answer at) (either (nat_eq b 0) _ _ (answer 0) (first_found n (following at) c))) refl

  last_found : (n at c found : ℕ) → Keeps (find_last n s at c found)
  last_found zero at c found = refl
  last_found (suc n) at c found =
      let b = byte s.memory (place at) in
      let last : ℕ = if nat_eq b c then at else found in
      either (user at) _ _ (either (nat_eq b 0) _ _ (answer last) (last_found n (following at) c last)) refl

  -- whether a byte is in a set
  set_read : (n at b : ℕ) (found absent : Stay) → Keeps found → Keeps absent → Keeps (in_set n s at b found absent)
  set_read zero at b found absent h g = refl
  set_read (suc n) at b found absent h g =
      let v = byte s.memory (place at) in
      either (user at) _ _ (either (nat_eq v b) _ _ h (either (nat_eq v 0) _ _ g (set_read n (following at) b found absent h g))) refl

  skipped : (inside : Bool) (n set at : ℕ) (next : Bool → ℕ → Stay) → ((ended : Bool) (at : ℕ) → Keeps (next ended at)) → Keeps (skips inside n s set at next)
  skipped inside zero set at next h = refl
  skipped true (suc n) set at next h =
      let b = byte s.memory (place at) in
      either (user at) _ _ (either (nat_eq b 0) _ _ (h true at) (set_read longest set b _ _ (skipped true n set (following at) next h) (h false at))) refl
  skipped false (suc n) set at next h =
      let b = byte s.memory (place at) in
      either (user at) _ _ (either (nat_eq b 0) _ _ (h true at) (set_read longest set b _ _ (h false at) (skipped false n set (following at) next h))) refl

  -- whether a text stands at an address
  text_read : (n at t : ℕ) (match other : Stay) → Keeps match → Keeps other → Keeps (stands n s at t match other)
  text_read zero at t match other h g = refl
  text_read (suc n) at t match other h g =
      let b = byte s.memory (place t) in
      let c = byte s.memory (place at) in
      let next = text_read n (following at) (following t) match other h g in
      either (user t) _ _ (either (nat_eq b 0) _ _ h (either (user at) _ _ (either (nat_eq c 0) _ _ (answer 0) (either (nat_eq c b) _ _ next g)) refl)) refl

  text_found : (n at t : ℕ) → Keeps (find_text n s at t)
  text_found zero at t = refl
  text_found (suc n) at t = text_read longest at t _ _ (answer at) (text_found n (following at) t)

  -- a pointer 0 is answered at once, one of two likewise
  pointer : (p : ℕ) (stay : Stay) → Keeps stay → Keeps (if nat_eq p 0 then answered s 0 else stay)
  pointer p stay h = either (nat_eq p 0) _ _ (answer 0) h

  pointers : (p q : ℕ) (stay : Stay) → Keeps stay → Keeps (if nat_eq p 0 || nat_eq q 0 then answered s 0 else stay)
  pointers p q stay h = either (nat_eq p 0 || nat_eq q 0) _ _ (answer 0) h

strlen_keeps : (s : KernelState) → Keeps s (strlen s)
strlen_keeps s = pointer s (registers_of s).r4 _ (counted s longest (registers_of s).r4 0)

memchr_keeps : (s : KernelState) → Keeps s (memchr s)
memchr_keeps s = let r = registers_of s in pointer s r.r4 _ (found s (count_of r.r6) r.r4 (r.r5 % 2 ^ 8))

memcmp_keeps : (s : KernelState) → Keeps s (memcmp s)
memcmp_keeps s = let r = registers_of s in pointers s r.r4 r.r5 _ (compared s (count_of r.r6) r.r4 r.r5)

strcmp_keeps : (s : KernelState) → Keeps s (strcmp s)
strcmp_keeps s = let r = registers_of s in pointers s r.r4 r.r5 _ (texts_compared s longest r.r4 r.r5)

strncmp_keeps : (s : KernelState) → Keeps s (strncmp s)
strncmp_keeps s = let r = registers_of s in pointers s r.r4 r.r5 _ (texts_compared s (count_of r.r6) r.r4 r.r5)

strchr_keeps : (s : KernelState) → Keeps s (strchr s)
strchr_keeps s = let r = registers_of s in pointer s r.r4 _ (first_found s longest r.r4 (r.r5 % 2 ^ 8))

strrchr_keeps : (s : KernelState) → Keeps s (strrchr s)
strrchr_keeps s = let r = registers_of s in pointer s r.r4 _ (last_found s longest r.r4 (r.r5 % 2 ^ 8) 0)

strpbrk_keeps : (s : KernelState) → Keeps s (strpbrk s)
strpbrk_keeps s = let r = registers_of s in pointers s r.r4 r.r5 _ (skipped s false longest r.r5 r.r4 _ (λ ended at. answer s _))

strspn_keeps : (s : KernelState) → Keeps s (strspn s)
strspn_keeps s = let r = registers_of s in pointers s r.r4 r.r5 _ (skipped s true longest r.r5 r.r4 _ (λ ended at. answer s (at - r.r4)))

strcspn_keeps : (s : KernelState) → Keeps s (strcspn s)
strcspn_keeps s = let r = registers_of s in pointers s r.r4 r.r5 _ (skipped s false longest r.r5 r.r4 _ (λ ended at. answer s (at - r.r4)))

strstr_keeps : (s : KernelState) → Keeps s (strstr s)
strstr_keeps s = let r = registers_of s in pointers s r.r4 r.r5 _ (text_found s longest r.r4 r.r5)

-- the calls from strpbrk on
rest_keep : Each (λ id. (s : KernelState) → Keeps s (call id s)) (A20 ∷ A21 ∷ A22 ∷ A24 ∷ A25 ∷ A26 ∷ A29 ∷ A2D ∷ A2E ∷ A44 ∷ [])
rest_keep = (strpbrk_keeps, (strspn_keeps, (strcspn_keeps, (strstr_keeps, (λ s. refl, (λ s. refl, (memcmp_keeps, (memcmp_keeps, (memchr_keeps, (λ s. refl, tt))))))))))

pub reading_keeps : ReadingKeeps
reading_keeps = (strcmp_keeps, (strncmp_keeps, (strlen_keeps, (strchr_keeps, (strrchr_keeps, (strchr_keeps, (strrchr_keeps, rest_keep)))))))
