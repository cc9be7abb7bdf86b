-- strcpy of a text leaves it at the destination with its zero.
use Rattle.std.proofs.Common.{◌≡◌, ℕ, zero, suc, ◌+◌, ◌%◌, ◌^◌, ◌<◌, ◌≤◌, Bool, true, false, refl, sym, ap, ◌∙◌, subst, arith, ⊎_elim}
use Rattle.std.specs.Prelude.{nat_eq, ◌&&◌, ◌||◌, if◌then◌else◌}
use Rattle.std.proofs.lemmas.Bool.{cases_eq, cases_lt, false≢true}
use Rattle.psx_base.specs.Addresses.{place, user, top, low, user_main, scratchpad}
use Rattle.psx_base.specs.declared.stop.Stop.{Stop}
use Rattle.psx_base.specs.Memory.{Memory, byte, put_byte}
use Rattle.psx_base.specs.KernelState.{KernelState}
use Rattle.psx_ram.proofs.Laws.{byte-put_byte_apart, byte-put_byte_same}
use Rattle.abs_kernel.specs.Stay.{Stay}
use Rattle.psx_base.specs.Context.{taken}
use Rattle.abs_kernel.specs.Answered.{registers_of, answered, with_running, with_answer}
use Rattle.abs_kernel.specs.UserBytes.{following, longest}
use Rattle.abs_kernel.specs.StayLaws.{EachEnd}
use Rattle.abs_kernel.specs.Strcpy.{copy_text, closes}
use Rattle.kern_stay.specs.Room.{room}
use Rattle.kern_stay.proofs.RoomLeft.{room_is_left, room_few}
use Rattle.kern_stay.proofs.Cursor.{null, not_null}
use Rattle.kern_text.specs.CopyLaws.{IsText, HasRoom, IsCopied, StrcpyCopies}
use Rattle.kern_text.proofs.Pointers.{no_null}
use Rattle.kern_text.proofs.CopyText.{now}

-- ---- addresses of user memory

segmented : (t0 t4 t5 m s : Bool) → (((t0 || (t4 || t5)) && m) || ((t0 || t4) && s)) ≡ true → (t0 || (t4 || t5)) ≡ true
segmented true t4 t5 m s h = refl
segmented false true t5 m s h = refl
segmented false false true m s h = refl
segmented false false false m s h = absurd (false≢true h)

user_low : (a : ℕ) → user a ≡ true → place a ≡ a % 2 ^ 29
unfolding user
user_low a u = ap (λ b. if b then low a else 2 ^ 29) (segmented (nat_eq (top a) 0) (nat_eq (top a) 4) (nat_eq (top a) 5) (user_main (low a)) (scratchpad (low a)) u)

not_zero : (a : ℕ) → user a ≡ true → a ≡ 0 → ⊥
unfolding user
not_zero a u e = false≢true (sym (ap user e) ∙ u)

-- bytes of user memory in a row are fewer than those of a text may be, and each has its place
record Row (a n : ℕ) : Type 0 where
  few : n < 0x1F0000
  within : a + n < 2 ^ 32
  distinct : (i j : ℕ) → i < j → j ≤ n → place (a + i) ≡ place (a + j) → ⊥

row : (a n : ℕ) → a < 2 ^ 32 → ((i : ℕ) → i ≤ n → user (a + i) ≡ true) → Row a n
row a n small good =
    let l = room_is_left a small in
    let lt : n < room a = ⊎_elim (λ lt. lt) (λ le. absurd (false≢true (sym l.bad ∙ good (room a) le))) (cases_lt n (room a)) in
    let most = room_few a in
    record {
      few = omega (arith, lt, most);
      within = omega (arith, lt, l.within);
      distinct = λ i j less le e. let p = sym (user_low (a + i) (good i (omega (arith, less, le)))) ∙ e ∙ user_low (a + j) (good j le) in omega (arith, p, less, le, lt, most);
    }

-- ---- the copy

-- i bytes are copied
record Sofar (s m : Memory) (a d i : ℕ) : Type 0 where
  done : (j : ℕ) → j < i → byte m (place (d + j)) ≡ byte s (place (a + j))
  others : (p : ℕ) → ((j : ℕ) → j < i → p ≡ place (d + j) → ⊥) → byte m p ≡ byte s p

one_more : (s m : Memory) (a d n i v : ℕ) → Row d n → i ≤ n → Sofar s m a d i → v ≡ byte s (place (a + i)) → Sofar s (put_byte m (place (d + i)) v) a d (suc i)
one_more s m a d n i v r le h e = record {
  done = λ j lt. ⊎_elim
      (λ (q : j ≡ i). subst (λ k. byte (put_byte m (place (d + i)) v) (place (d + k)) ≡ byte s (place (a + k))) (sym q) (byte-put_byte_same m (place (d + i)) v ∙ e))
      (λ (q : j ≡ i → ⊥). let less : j < i = omega (arith, lt, q) in byte-put_byte_apart m (place (d + i)) v (place (d + j)) (r.distinct j i less le) ∙ h.done j less)
      (cases_eq j i);
  others = λ p out. byte-put_byte_apart m (place (d + i)) v p (out i (omega arith)) ∙ h.others p (λ j lt. out j (omega (arith, lt)));
}

module _ (s : KernelState) (n : ℕ) (a d : ℕ) (text : IsText s.memory a n) (free : HasRoom a d n) (of_a : Row a n) (of_d : Row d n) where
  abbrev P : KernelState → Type 0
  P t = IsCopied s t a d n

  abbrev Q : Stop → Memory → Type 0
  Q stop memory = ⊥

  -- the state that it returns with
  abbrev with_end : Memory → KernelState
  with_end m = with_running (now s m) (with_answer (taken s.running.context (registers_of s).r31) d)

  -- a byte that is user memory is read or written
  reached : (at : ℕ) (x y : Stay) → user at ≡ true → EachEnd P Q x → EachEnd P Q (if user at then x else y)
  reached at x y u h = subst (λ b. EachEnd P Q (if b then x else y)) (sym u) h

  -- the source is as it was
  unread : (m : Memory) (i j : ℕ) → i ≤ n → j ≤ n → Sofar s.memory m a d i → byte m (place (a + j)) ≡ byte s.memory (place (a + j))
  unread m i j le lj h = h.others (place (a + j)) (λ k lt e. free.apart k j (omega (arith, lt, le)) lj (sym e))

  closed : (m : Memory) (to left : ℕ) → to ≡ d + n → Sofar s.memory m a d n → EachEnd P Q (closes d left (now s m) to)
  closed m to left e h =
      let g : Sofar s.memory (put_byte m (place (d + n)) 0) a d (suc n) = one_more s.memory m a d n n 0 of_d (omega arith) h (sym text.zero) in
      reached to _ _ (ap user e ∙ free.writable n (omega arith))
      (subst (λ p. P (with_end (put_byte m (place p) 0)))
      (sym e) record { text = λ i le. g.done i (omega (arith, le)); others = λ p out. g.others p (λ j lt. out j (omega (arith, lt))); rest = refl })

  copied : (more fuel i : ℕ) (m : Memory) (to from : ℕ) → i + more ≡ n → more < fuel → to ≡ d + i → from ≡ a + i → Sofar s.memory m a d i → EachEnd P Q (copy_text fuel (now s m) to from (closes d))
  copied more zero i m to from all few e f h = absurd (omega (arith, few))
  copied zero (suc fuel) i m to from all few e f h =
      let is : i ≡ n = omega (arith, all) in
      let v : byte m (place from) ≡ 0 = ap (λ x. byte m (place x)) f ∙ unread m i i (omega (arith, is)) (omega (arith, is)) h ∙ ap (λ x. byte s.memory (place (a + x))) is ∙ text.zero in
      reached from _ _ (ap user f ∙ text.readable i (omega (arith, is)))
      (subst (λ x. EachEnd P Q x) (sym (null (byte m (place from)) _ _ v)) (closed m to (suc fuel) (e ∙ ap (λ x. d + x) is) (subst (λ x. Sofar s.memory m a d x) is h)))
  copied (suc more) (suc fuel) i m to from all few e f h =
      let lt : i < n = omega (arith, all) in
      let v : ℕ = byte m (place from) in
      let same : v ≡ byte s.memory (place (a + i)) = ap (λ x. byte m (place x)) f ∙ unread m i i (omega (arith, lt)) (omega (arith, lt)) h in
      let letter = text.letters i lt in
      let g : Sofar s.memory (put_byte m (place (d + i)) (v % 2 ^ 8)) a d (suc i) = one_more s.memory m a d n i (v % 2 ^ 8) of_d (omega (arith, lt)) h (omega (arith, same, letter)) in
      reached from _ _ (ap user f ∙ text.readable i (omega (arith, lt)))
      (subst (λ x. EachEnd P Q x) (sym (not_null v _ _ (λ z. omega (arith, z, same, letter))))
      (reached to _ _ (ap user e ∙ free.writable i (omega (arith, lt)))
      (copied more fuel (suc i) (put_byte m (place to) (v % 2 ^ 8)) (following to) (following from) (omega (arith, all)) (omega (arith, few))
      (omega (arith, e, of_d.within, lt)) (omega (arith, f, of_a.within, lt))
      (subst (λ x. Sofar s.memory (put_byte m (place x) (v % 2 ^ 8)) a d (suc i)) (sym e) g))))

long_enough : (n : ℕ) → n < 0x1F0000 → n < longest
unfolding longest
long_enough n lt = omega (arith, lt)

pub copies : StrcpyCopies
copies s n small_d small_a text free =
    let d : ℕ = (registers_of s).r4 in
    let a : ℕ = (registers_of s).r5 in
    let of_a = row a n small_a text.readable in
    let of_d = row d n small_d free.writable in
    let go : Stay = copy_text longest s d a (closes d) in
    let at_0 : (x : ℕ) → user (x + 0) ≡ true → x ≡ 0 → ⊥ = λ x u. let e : x + 0 ≡ x = omega arith in not_zero x (ap user (sym e) ∙ u) in
    subst (λ x. EachEnd (P s n a d text free of_a of_d) (Q s n a d text free of_a of_d) x)
    (sym (no_null d a (answered s 0) go (at_0 d (free.writable 0 (omega arith))) (at_0 a (text.readable 0 (omega arith)))))
    (copied s n a d text free of_a of_d n longest 0 s.memory d a (omega arith) (long_enough n of_a.few) (omega arith) (omega arith)
    (record { done = λ j lt. absurd (omega (arith, lt)); others = λ p out. refl }))
