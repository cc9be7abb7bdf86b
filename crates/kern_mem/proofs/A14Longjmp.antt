-- longjmp meets its stay.
use Rattle.psx_flow.proofs.Kit.{◌≡◌, ℕ, suc, ◌+◌, ◌%◌, ◌^◌, ◌<◌, ◌≤◌, ◌++◌, List, [], ◌∷◌, refl, sym, ap, ◌∙◌, subst, arith, Memory, Registers, put_word, Run, Goal, Calls, calls, kernel_words, start}
use Rattle.std.proofs.Common.{zero}
use Rattle.psx_base.specs.KernelState.{KernelState}
use Rattle.psx_flow.specs.Told.{ports}
use Rattle.psx_flow.proofs.Knows.{Knows}
use Rattle.kern_layout.specs.Valid.{Valid, RunningFits}
use Rattle.kern_layout.specs.Contexts.{saved}
use Rattle.kern_layout.specs.Stores.{with_field}
use Rattle.abs_kernel.proofs.Moved.{valid_moved}
use Rattle.abs_kernel.specs.Stay.{Stay}
use Rattle.abs_kernel.specs.Answered.{registers_of, answered}
use Rattle.abs_kernel.specs.UserBytes.{bad_pointer}
use Rattle.abs_kernel.specs.UserWords.{reads_word}
use Rattle.abs_kernel.specs.Jumps.{with_jump_words, with_registers, following_word, jumps, longjmp}
use Rattle.abs_kernel.specs.declared.calls.CallId.TheVariants.{A14}
use Rattle.abs_kernel.specs.Calls.{call}
use Rattle.kern_stay.specs.Shared.{tree, tested_there}
use Rattle.kern_stay.specs.Doors.{Holds, Through, Serves, called_with, begun, most_steps}
use Rattle.kern_stay.proofs.Accessing.{places, knows_accesses}
use Rattle.kern_stay.proofs.Ending.{Left, left_all, left_is}
use Rattle.kern_stay.proofs.Looping.{leaves, stops}
use Rattle.kern_stay.proofs.UserWords.{good_is, word_is, left_word_read, left_word_unread}
use Rattle.kern_stay.proofs.AreaStored.{holds_saved}
use Rattle.kern_mem.specs.declared.places.TheConstants.{LONGJMP}
use Rattle.kern_mem.specs.declared.a14_longjmp.TheConstants.{NODES}
use Rattle.kern_mem.proofs.WordLoop.{TurningAt, FromLoopAt, looped_at, moving_up, moving}

-- k words are read, each behind the last of a list, whose first goes
abbrev read : (k : ℕ) → List ℕ → KernelState → (at : ℕ) → (List ℕ → Stay) → Stay
read zero ws s at next = next ws
read (suc k) [] s at next = next []
read (suc k) (w ∷ ws) s at next = reads_word s at (λ v. read k (ws ++ v ∷ []) s (following_word at) next)

-- ---- the registers are stored

valid_with : (s : KernelState) → Valid s → (c : Registers) → Valid (with_registers s c)
valid_with s valid c =
    let fits : RunningFits record s.running.context { regs = c } = record { follows = valid.running.follows; branch = valid.running.branch } in
    valid_moved s s.memory s.random (with_registers s c).running valid fits

-- one of them in its field of the work area
holds_register : (s : KernelState) → Valid s → (c b : Registers) (m : Memory) (o v : ℕ) → Holds (with_registers s c) m → o % 4 ≡ 0 → o < 0x98
    → with_field (saved (with_registers s c).running) o v ≡ saved (with_registers s b).running → Holds (with_registers s b) (put_word m (0xEB00 + o) v)
holds_register s valid c b m o v h al low e = holds_saved (with_registers s c) (valid_with s valid c) m h o v (with_registers s b).running al low h.settled e

holds_words : (s : KernelState) → Valid s → (m : Memory) → Holds s m → (a b c d0 d1 d2 d3 d4 d5 d6 d7 g : ℕ)
    → Holds (with_registers s (with_jump_words (registers_of s) (a ∷ b ∷ c ∷ d0 ∷ d1 ∷ d2 ∷ d3 ∷ d4 ∷ d5 ∷ d6 ∷ d7 ∷ g ∷ [])))
    (put_word (put_word (put_word (put_word (put_word (put_word (put_word (put_word (put_word (put_word (put_word (put_word m 0xEB84 a) 0xEB7C b) 0xEB80 c) 0xEB48 d0)
    0xEB4C d1) 0xEB50 d2) 0xEB54 d3) 0xEB58 d4) 0xEB5C d5) 0xEB60 d6) 0xEB64 d7) 0xEB78 g)
holds_words s valid m h a b c d0 d1 d2 d3 d4 d5 d6 d7 g =
    let r : Registers = registers_of s in
    let c1 : Registers = record r { r31 = a } in
    let h1 = holds_register s valid r c1 _ 0x84 a h refl (omega arith) refl in
    let c2 : Registers = record c1 { r29 = b } in
    let h2 = holds_register s valid c1 c2 _ 0x7C b h1 refl (omega arith) refl in
    let c3 : Registers = record c2 { r30 = c } in
    let h3 = holds_register s valid c2 c3 _ 0x80 c h2 refl (omega arith) refl in
    let c4 : Registers = record c3 { r16 = d0 } in
    let h4 = holds_register s valid c3 c4 _ 0x48 d0 h3 refl (omega arith) refl in
    let c5 : Registers = record c4 { r17 = d1 } in
    let h5 = holds_register s valid c4 c5 _ 0x4C d1 h4 refl (omega arith) refl in
    let c6 : Registers = record c5 { r18 = d2 } in
    let h6 = holds_register s valid c5 c6 _ 0x50 d2 h5 refl (omega arith) refl in
    let c7 : Registers = record c6 { r19 = d3 } in
    let h7 = holds_register s valid c6 c7 _ 0x54 d3 h6 refl (omega arith) refl in
    let c8 : Registers = record c7 { r20 = d4 } in
    let h8 = holds_register s valid c7 c8 _ 0x58 d4 h7 refl (omega arith) refl in
    let c9 : Registers = record c8 { r21 = d5 } in
    let h9 = holds_register s valid c8 c9 _ 0x5C d5 h8 refl (omega arith) refl in
    let c10 : Registers = record c9 { r22 = d6 } in
    let h10 = holds_register s valid c9 c10 _ 0x60 d6 h9 refl (omega arith) refl in
    let c11 : Registers = record c10 { r23 = d7 } in
    let h11 = holds_register s valid c10 c11 _ 0x64 d7 h10 refl (omega arith) refl in
    let c12 : Registers = record c11 { r28 = g } in
    let h12 = holds_register s valid c11 c12 _ 0x78 g h11 refl (omega arith) refl in
    h12

-- ---- the loop

-- at its head, with k words to come
record Head (stay : Stay) (s : KernelState) (m : Memory) (k : ℕ) (e : Run) : Type 0 where
  most : ℕ
  left : Left most_steps stay (read k (moving e.regs) s e.regs.r8 (jumps s)) most
  within : e.steps + 64 ≤ most
  bytes : e.bytes ≡ m
  quiet : ports e.seen ≡ []
  few : k ≤ 12
  r5 : e.regs.r5 ≡ (registers_of s).r5
  r25 : e.regs.r25 ≡ k
  small : e.regs.r8 < 2 ^ 32

module _ (C : Calls) (know : Knows places C) (at : ℕ) (stay : Stay) (s : KernelState) (valid : Valid s) (m : Memory) (holds : Holds s m) where
  abbrev G : ℕ → Goal
  G to e = Through stay most_steps to e

  abbrev Inv : ℕ → Goal
  Inv k e = Head stay s m k e

  turn : (k : ℕ) (e : Run) → Inv k e → TurningAt C (tree NODES) at G Inv k e
  turn zero e h =
      let c = e.regs in
      let within = h.within in
      let there : Holds s e.bytes = subst (Holds s) (sym h.bytes) holds in
      let t = with_registers s (with_jump_words (registers_of s) (moving c)) in
      record {
        leave = λ eq. leaves stay (jumps s (moving c)) h.most t _ h.left h.quiet (ap (answered t) (sym h.r5))
            (holds_words s valid e.bytes there c.r13 c.r14 c.r15 c.r16 c.r17 c.r18 c.r19 c.r20 c.r21 c.r22 c.r23 c.r24) (omega arith);
        again = λ ne. absurd (ne h.r25);
      }
  turn (suc k) e h =
      let x : ℕ = e.regs.r8 in
      let there : Holds s e.bytes = subst (Holds s) (sym h.bytes) holds in
      let next : ℕ → Stay = λ v. read k (moving_up e.regs ++ v ∷ []) s (following_word x) (jumps s) in
      let within = h.within in
      let small = h.small in
      record {
        leave = λ eq. absurd (omega (arith, eq, h.r25));
        again = λ ne. know.read_word _ _ _ _ _ _ _ small record {
          good = λ g y z. (
            λ none. absurd (omega (arith, none)),
            λ some.
                let u = sym (good_is x) ∙ g in
                let l = left_word_read stay s x next h.most u h.left in (
                  k,
                  omega arith,
                  record {
                    most = h.most + 512;
                    left = left_is stay _ _ (h.most + 512) (ap next (sym (word_is s e.bytes there x u))) l;
                    within = omega arith;
                    bytes = h.bytes;
                    quiet = h.quiet;
                    few = omega (arith, h.few);
                    r5 = h.r5;
                    r25 = omega (arith, h.r25, h.few);
                    small = omega arith;
                  },
                ),
          );
          bad = λ b y z. (
            λ none.
                let l = left_word_unread stay s x next h.most (sym (good_is x) ∙ b) h.left in
                stops stay (bad_pointer s x) (h.most + 512) s _ l h.quiet refl there (omega arith),
            λ some. absurd (some refl),
          );
        };
      }

  -- from where the loop is reached
  loops : (e : Run) → Left most_steps stay (read 12 (moving e.regs) s e.regs.r8 (jumps s)) most_steps → e.bytes ≡ m → e.steps ≤ 100 → ports e.seen ≡ []
      → e.regs.r5 ≡ (registers_of s).r5 → e.regs.r25 ≡ 12 → e.regs.r8 < 2 ^ 32 → FromLoopAt C (tree NODES) at G e
  loops e l bytes few quiet r5 r25 small =
      looped_at C know.fair (tree NODES) at G Inv turn 12 e
      record { most = most_steps; left = l; within = omega arith; bytes = bytes; quiet = quiet; few = omega arith; r5 = r5; r25 = r25; small = small }

pub serves : Serves [] most_steps (call A14) LONGJMP (tree NODES)
serves s d z m h =
    let C : Calls = calls kernel_words ([] ++ tested_there) in
    let know : Knows places C = knows_accesses [] refl in
    start C know.fair (tree NODES) LONGJMP (λ _. ⊥) (λ to e. Through (longjmp s) most_steps to e) (begun (called_with (registers_of s) d) z m)
    (loops C know (LONGJMP + 8) (longjmp s) s h.valid m h.holds _ (left_all (longjmp s)) refl (omega arith) refl refl refl (h.words 4))
