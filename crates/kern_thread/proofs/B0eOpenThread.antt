-- OpenThread meets its stay.
use Rattle.psx_flow.proofs.Kit.{◌≡◌, ℕ, suc, ◌+◌, ◌-◌, ◌*◌, ◌%◌, ◌<◌, ◌≤◌, [], refl, sym, ap, ◌∙◌, subst, arith, ⊎_elim, Memory, word, Run, Goal, Calls, calls, kernel_words, fair, start, true, false}
use Rattle.std.proofs.Common.{zero, length, ◌∷◌, ne_eqb, eq-eqb}
use Rattle.std.proofs.lemmas.Bool.{cases_eq}
use Rattle.std.specs.Prelude.{Bool, ◌||◌, nat_eq, if◌then◌else◌}
use Rattle.psx_base.specs.KernelState.{Thread, Free, Used, KernelState}
use Rattle.psx_flow.specs.Told.{ports}
use Rattle.kern_layout.specs.Fields.{Fields, Block}
use Rattle.kern_layout.specs.Contexts.{saved}
use Rattle.kern_layout.specs.Reads.{thread, thread_at}
use Rattle.abs_kernel.specs.Answered.{registers_of, answered}
use Rattle.abs_kernel.specs.Threads.{handle_of, is_used}
use Rattle.abs_kernel.specs.OpenThread.{new_thread, with_opened, opens_from, open_thread}
use Rattle.abs_kernel.specs.declared.calls.CallId.TheVariants.{B0E}
use Rattle.abs_kernel.specs.Calls.{call}
use Rattle.kern_stay.specs.Shared.{tree, tested_there}
use Rattle.kern_stay.specs.Doors.{Holds, Arrives, Through, Serves, called_with, begun, most_steps}
use Rattle.kern_stay.proofs.Ending.{through, answers}
use Rattle.kern_stay.proofs.Looping.{Turning, looped}
use Rattle.kern_thread.specs.declared.places.TheConstants.{OPEN_THREAD}
use Rattle.kern_thread.specs.declared.b0e_open_thread.TheConstants.{NODES}
use Rattle.kern_stay.proofs.Slots.{status_of, status_is}
use Rattle.kern_thread.proofs.ThreadsHeld.{holds_thread}
use Rattle.kern_thread.proofs.Stores.{stores, stores_there, stores_placed, stores_words, stores_bytes, stores_block, to}

-- the slots from n on, where there is one
takes : (k n : ℕ) (s : KernelState) (b : Bool) → 0 < k → (is_used (thread s n) || nat_eq n s.current) ≡ b
    → opens_from k s n ≡ (if b then opens_from (k - 1) s (suc n) else answered (with_opened s n) (handle_of n))
takes zero n s b h e = absurd (omega arith)
takes (suc k) n s b h e =
    let z : k ≡ suc k - 1 = omega arith in
    ap (λ c. if c then opens_from k s (suc n) else answered (with_opened s n) (handle_of n)) e ∙ ap (λ j. if b then opens_from j s (suc n) else answered (with_opened s n) (handle_of n)) z

or_true : (a b : Bool) → b ≡ true → (a || b) ≡ true
or_true true b e = refl
or_true false b e = e

used_of : (t : Thread) → status_of t ≡ 0x4000 → is_used t ≡ true
used_of Free e = absurd (omega (arith, e))
used_of (Used u) e = refl

free_of : (t : Thread) → (status_of t ≡ 0x4000 → ⊥) → is_used t ≡ false
free_of Free ne = refl
free_of (Used u) ne = absurd (ne refl)

-- at the loop's head, with k slots to come
record Head (s : KernelState) (m : Memory) (k : ℕ) (e : Run) : Type 0 where
  n : ℕ
  sum : n + k ≡ length s.threads
  left : open_thread s ≡ opens_from k s n
  within : e.steps + 16 * k ≤ 300
  bytes : e.bytes ≡ m
  quiet : ports e.seen ≡ []
  r2 : e.regs.r2 ≡ 0xFF000000
  r4 : e.regs.r4 ≡ (registers_of s).r4
  r5 : e.regs.r5 ≡ (registers_of s).r5
  r6 : e.regs.r6 ≡ (registers_of s).r6
  r9 : e.regs.r9 ≡ length s.threads
  r10 : e.regs.r10 ≡ 0x4000
  r12 : e.regs.r12 ≡ s.current
  r13 : e.regs.r13 ≡ n
  r15 : e.regs.r15 ≡ 0x80000000 + thread_at n

module _ (C : Calls) (s : KernelState) (m : Memory) (h : Arrives s m) where
  abbrev G : ℕ → Goal
  G to e = Through (open_thread s) most_steps to e

  -- the fields of a new thread
  abbrev fields : (pc sp gp : ℕ) → Fields
  fields pc sp gp = (0, 0x4000) ∷ saved (new_thread pc sp gp)

  opened : (n : ℕ) → n < length s.threads → nat_eq n s.current ≡ false → (pc sp gp used : ℕ) → pc ≡ (registers_of s).r4 → sp ≡ (registers_of s).r5 → gp ≡ (registers_of s).r6 → used ≡ 0x4000
      → (x : Memory) → x ≡ stores_there m (thread_at n) ((0, used) ∷ saved (new_thread pc sp gp)) → Holds (with_opened s n) x
  opened n few other pc sp gp used e4 e5 e6 e10 x is =
      let r = registers_of s in
      let fs : Fields = fields r.r4 r.r5 r.r6 in
      let p : ℕ = thread_at n in
      let even : p % 4 ≡ 0 = omega arith in
      let most = h.valid.threads_most in
      let same : x ≡ stores m p fs = is ∙ (λ i. stores_there m p ((0, e10 i) ∷ saved (new_thread (e4 i) (e5 i) (e6 i)))) ∙ stores_placed fs m p refl (omega (arith, few, most)) in
      subst (Holds (with_opened s n)) (sym same)
      (holds_thread s h.valid m (stores m p fs) h.holds n (Used (new_thread r.r4 r.r5 r.r6)) few
      (λ a al out. stores_words fs m p a refl even al out) (λ a out. stores_bytes fs m p a refl out)
      (subst (λ b. Block (word (stores m p fs)) p ((0, 0x4000) ∷ (if b then [] else saved (new_thread r.r4 r.r5 r.r6)))) (sym other) (stores_block fs m p refl even)))

  turn : (k : ℕ) (e : Run) → Head s m k e → Turning C (tree NODES) G (Head s m) k e
  turn k e h1 =
      let n : ℕ = h1.n in
      let p : ℕ = thread_at n in
      let sum = h1.sum in
      let within = h1.within in
      let valid = h.valid in
      record {
        leave = λ eq.
            let all : k ≡ 0 = omega (arith, eq, h1.r13, h1.r9, sum) in
            let there : Holds s e.bytes = subst (Holds s) (sym h1.bytes) h.holds in
            through (open_thread s) most_steps _ _ h1.quiet (answers most_steps s _ (open_thread s) (h1.left ∙ ap (λ j. opens_from j s n) all) there (omega (arith, within)));
        again = λ ne.
            let some : 0 < k = ⊎_elim (λ (z : k ≡ 0). absurd (ne (h1.r13 ∙ (let q : n ≡ length s.threads = omega (arith, z, sum) in q) ∙ sym h1.r9)))
            (λ (nz : k ≡ 0 → ⊥). omega (arith, nz)) (cases_eq k 0) in
            let few : n < length s.threads = omega (arith, some, sum) in
            let even : p % 4 ≡ 0 = omega arith in
            let low : 0xB000 ≤ p = omega arith in
            let high : p + 0xC0 ≤ 0xBC00 = omega (arith, few, valid.threads_most) in
            let status : word e.bytes (p + 0) ≡ status_of (thread s n) = (let z : p + 0 ≡ p = omega arith in ap (word e.bytes) z) ∙ ap (λ b. word b p) h1.bytes ∙ status_is s m h.holds n few in
            let next : (is_used (thread s n) || nat_eq n s.current) ≡ true → open_thread s ≡ opens_from (k - 1) s (suc n) = λ q. h1.left ∙ takes k n s true some q in
            let o0 = to e.regs.r15 p 0 h1.r15 even refl low (omega (arith, high)) in
            let o12 = to e.regs.r15 p 12 h1.r15 even refl low (omega (arith, high)) in
            let o16 = to e.regs.r15 p 16 h1.r15 even refl low (omega (arith, high)) in
            let o20 = to e.regs.r15 p 20 h1.r15 even refl low (omega (arith, high)) in
            let o24 = to e.regs.r15 p 24 h1.r15 even refl low (omega (arith, high)) in
            let o28 = to e.regs.r15 p 28 h1.r15 even refl low (omega (arith, high)) in
            let o32 = to e.regs.r15 p 32 h1.r15 even refl low (omega (arith, high)) in
            let o36 = to e.regs.r15 p 36 h1.r15 even refl low (omega (arith, high)) in
            let o40 = to e.regs.r15 p 40 h1.r15 even refl low (omega (arith, high)) in
            let o44 = to e.regs.r15 p 44 h1.r15 even refl low (omega (arith, high)) in
            let o48 = to e.regs.r15 p 48 h1.r15 even refl low (omega (arith, high)) in
            let o52 = to e.regs.r15 p 52 h1.r15 even refl low (omega (arith, high)) in
            let o56 = to e.regs.r15 p 56 h1.r15 even refl low (omega (arith, high)) in
            let o60 = to e.regs.r15 p 60 h1.r15 even refl low (omega (arith, high)) in
            let o64 = to e.regs.r15 p 64 h1.r15 even refl low (omega (arith, high)) in
            let o68 = to e.regs.r15 p 68 h1.r15 even refl low (omega (arith, high)) in
            let o72 = to e.regs.r15 p 72 h1.r15 even refl low (omega (arith, high)) in
            let o76 = to e.regs.r15 p 76 h1.r15 even refl low (omega (arith, high)) in
            let o80 = to e.regs.r15 p 80 h1.r15 even refl low (omega (arith, high)) in
            let o84 = to e.regs.r15 p 84 h1.r15 even refl low (omega (arith, high)) in
            let o88 = to e.regs.r15 p 88 h1.r15 even refl low (omega (arith, high)) in
            let o92 = to e.regs.r15 p 92 h1.r15 even refl low (omega (arith, high)) in
            let o96 = to e.regs.r15 p 96 h1.r15 even refl low (omega (arith, high)) in
            let o100 = to e.regs.r15 p 100 h1.r15 even refl low (omega (arith, high)) in
            let o104 = to e.regs.r15 p 104 h1.r15 even refl low (omega (arith, high)) in
            let o108 = to e.regs.r15 p 108 h1.r15 even refl low (omega (arith, high)) in
            let o120 = to e.regs.r15 p 120 h1.r15 even refl low (omega (arith, high)) in
            let o124 = to e.regs.r15 p 124 h1.r15 even refl low (omega (arith, high)) in
            let o128 = to e.regs.r15 p 128 h1.r15 even refl low (omega (arith, high)) in
            let o132 = to e.regs.r15 p 132 h1.r15 even refl low (omega (arith, high)) in
            let o136 = to e.regs.r15 p 136 h1.r15 even refl low (omega (arith, high)) in
            let o140 = to e.regs.r15 p 140 h1.r15 even refl low (omega (arith, high)) in
            let o144 = to e.regs.r15 p 144 h1.r15 even refl low (omega (arith, high)) in
            let o148 = to e.regs.r15 p 148 h1.r15 even refl low (omega (arith, high)) in
            rw (o0.here, o0.sort, o0.place) (
              λ free. (
                λ other. rw (o0.here, o0.sort, o12.here, o12.sort, o16.here, o16.sort, o20.here, o20.sort, o24.here, o24.sort, o28.here, o28.sort) (
                    rw (o32.here, o32.sort, o36.here, o36.sort, o40.here, o40.sort, o44.here, o44.sort, o48.here, o48.sort, o52.here, o52.sort) (
                    rw (o56.here, o56.sort, o60.here, o60.sort, o64.here, o64.sort, o68.here, o68.sort, o72.here, o72.sort, o76.here, o76.sort) (
                    rw (o80.here, o80.sort, o84.here, o84.sort, o88.here, o88.sort, o92.here, o92.sort, o96.here, o96.sort, o100.here, o100.sort) (
                    rw (o104.here, o104.sort, o108.here, o108.sort, o120.here, o120.sort, o124.here, o124.sort, o128.here, o128.sort, o132.here, o132.sort) (
                    rw (o136.here, o136.sort, o140.here, o140.sort, o144.here, o144.sort, o148.here, o148.sort) (
                    let f = free_of (thread s n) (λ q. free (status ∙ q ∙ sym h1.r10)) in
                    let o = ne_eqb n s.current (λ q. other (h1.r13 ∙ q ∙ sym h1.r12)) in
                    through (open_thread s) most_steps _ _ h1.quiet (answers most_steps (with_opened s n) _ (open_thread s)
                    (h1.left ∙ takes k n s false some (ap (λ b. b || nat_eq n s.current) f ∙ o) ∙ ap (answered (with_opened s n)) (omega (arith, h1.r2, h1.r13, few, valid.threads_most)))
                    (opened n few o e.regs.r4 e.regs.r5 e.regs.r6 e.regs.r10 h1.r4 h1.r5 h1.r6 h1.r10 _
                    (ap (λ b. stores_there b p ((0, e.regs.r10) ∷ saved (new_thread e.regs.r4 e.regs.r5 e.regs.r6))) h1.bytes)) (omega (arith, within, some))))))))),
                λ same. (
                  k - 1,
                  omega (arith, some),
                  record {
                    n = suc n;
                    sum = omega (arith, sum, some);
                    left = next (or_true (is_used (thread s n)) (nat_eq n s.current) (eq-eqb n s.current (sym h1.r13 ∙ same ∙ h1.r12)));
                    within = omega (arith, within, some);
                    bytes = h1.bytes;
                    quiet = h1.quiet;
                    r2 = h1.r2;
                    r4 = h1.r4;
                    r5 = h1.r5;
                    r6 = h1.r6;
                    r9 = h1.r9;
                    r10 = h1.r10;
                    r12 = h1.r12;
                    r13 = omega (arith, h1.r13, few, valid.threads_most);
                    r15 = omega (arith, h1.r15, high);
                  },
                ),
              ),
              λ used. (
                k - 1,
                omega (arith, some),
                record {
                  n = suc n;
                  sum = omega (arith, sum, some);
                  left = next (ap (λ b. b || nat_eq n s.current) (used_of (thread s n) (sym status ∙ used ∙ h1.r10)));
                  within = omega (arith, within, some);
                  bytes = h1.bytes;
                  quiet = h1.quiet;
                  r2 = h1.r2;
                  r4 = h1.r4;
                  r5 = h1.r5;
                  r6 = h1.r6;
                  r9 = h1.r9;
                  r10 = h1.r10;
                  r12 = h1.r12;
                  r13 = omega (arith, h1.r13, few, valid.threads_most);
                  r15 = omega (arith, h1.r15, high);
                },
              ),
            );
      }

pub serves : Serves [] most_steps (call B0E) OPEN_THREAD (tree NODES)
serves s d z m h =
    let C : Calls = calls kernel_words tested_there in
    let valid = h.valid in
    let cur : word m 0xEA00 ≡ s.current = h.holds.reads.variables.0 in
    let count : word m 0xEA0C ≡ length s.threads = h.holds.reads.variables.1.1.1.0 in
    start C (fair kernel_words tested_there) (tree NODES) OPEN_THREAD (λ _. ⊥) (λ to e. Through (open_thread s) most_steps to e) (begun (called_with (registers_of s) d) z m)
    (looped C (fair kernel_words tested_there) (tree NODES) (G C s m h) (Head s m) (turn C s m h) (length s.threads) _
    record {
      n = 0;
      sum = omega arith;
      left = refl;
      within = omega (arith, valid.threads_most);
      bytes = refl;
      quiet = refl;
      r2 = refl;
      r4 = refl;
      r5 = refl;
      r6 = refl;
      r9 = count;
      r10 = refl;
      r12 = cur;
      r13 = refl;
      r15 = refl;
    })
