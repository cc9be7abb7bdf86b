-- What an instruction keeps: the words of listings, and interrupts off.
use Rattle.std.proofs.Common.{◌≡◌, ◌≢◌, ℕ, ◌+◌, ◌%◌, Bool, true, false, refl, sym, ap, ◌∙◌, arith, ⊎_elim}
use Rattle.std.specs.Prelude.{not, nat_eq, ◌||◌, if◌then◌else◌}
use Rattle.std.proofs.lemmas.Bool.{false≢true, cases_Bool, eqb-true}
use Rattle.psx_ins.specs.declared.ins.Ins.{Ins}
use Rattle.psx_ins.specs.declared.ins.Ins.TheVariants.{SB, SH, SWL, SW, SWR, MTC0}
use Rattle.psx_base.specs.Memory.{Memory, byte, is_writable}
use Rattle.psx_base.specs.Addresses.{place}
use Rattle.psx_base.specs.Registers.{register}
use Rattle.psx_ram.specs.Apart.{apart}
use Rattle.psx_ram.proofs.Laws.{byte-put_byte_apart, byte-put_half_apart, byte-put_word_apart}
use Rattle.psx_cpu.specs.Processor.{Bus, Cop0}
use Rattle.psx_cpu.specs.DataAccess.{write_byte, write_half, write_word}
use Rattle.psx_cpu.specs.Changes.{sr_kept}
use Rattle.psx_flow.specs.Run.{Run, state_at, done, spares_byte, spares_half, spares_word, spares}
use Rattle.psx_flow.specs.Reaches.{Keeps}
use Rattle.psx_flow.proofs.Step.{both}

module _ (kept : ℕ → Bool) where
  elsewhere : (p x : ℕ) → spares_byte kept p ≡ true → kept x ≡ true → x ≢ p
  elsewhere p x h k e = false≢true (ap not (sym k ∙ ap kept e) ∙ h)

  half_elsewhere : (p x : ℕ) → spares_half kept p ≡ true → kept x ≡ true → apart p 2 x 1 ≡ true
  half_elsewhere p x h k =
      let b = both (spares_byte kept p) (spares_byte kept (p + 1)) h in
      let n0 = elsewhere p x b.0 k in let n1 = elsewhere (p + 1) x b.1 k in
      grind arith

  word_elsewhere : (p x : ℕ) → spares_word kept p ≡ true → kept x ≡ true → apart p 4 x 1 ≡ true
  word_elsewhere p x h k =
      let a = both (spares_half kept p) (spares_half kept (p + 2)) h in
      let b = both (spares_byte kept p) (spares_byte kept (p + 1)) a.0 in
      let c = both (spares_byte kept (p + 2)) (spares_byte kept (p + 2 + 1)) a.1 in
      let n0 = elsewhere p x b.0 k in let n1 = elsewhere (p + 1) x b.1 k in
      let n2 = elsewhere (p + 2) x c.0 k in let n3 = elsewhere (p + 2 + 1) x c.1 k in
      grind arith

  kept_byte : (m : Memory) (a v x : ℕ) → spares_byte kept (place a) ≡ true → kept x ≡ true → byte (write_byte m a v) x ≡ byte m x
  unfolding write_byte
  kept_byte m a v x h k = ⊎_elim (λ w. rw w (byte-put_byte_apart m (place a) v x (elsewhere (place a) x h k))) (λ w. rw w refl) (cases_Bool (is_writable (place a)))

  kept_half : (m : Memory) (a v x : ℕ) → spares_half kept (place a) ≡ true → kept x ≡ true → byte (write_half m a v) x ≡ byte m x
  unfolding write_half
  kept_half m a v x h k = ⊎_elim (λ w. rw w (byte-put_half_apart m (place a) v x (half_elsewhere (place a) x h k))) (λ w. rw w refl) (cases_Bool (is_writable (place a)))

  kept_word : (m : Memory) (a v x : ℕ) → spares_word kept (place a) ≡ true → kept x ≡ true → byte (write_word m a v) x ≡ byte m x
  unfolding write_word
  kept_word m a v x h k = ⊎_elim (λ w. rw w (byte-put_word_apart m (place a) v x (word_elsewhere (place a) x h k))) (λ w. rw w refl) (cases_Bool (is_writable (place a)))

  off : (b : Bool) (z : Cop0) (v : ℕ) → z.sr % 2 ≡ 0 → (not b || nat_eq (sr_kept v % 2) 0) ≡ true → (if b then record z { sr = sr_kept v } else z).sr % 2 ≡ 0
  off true z v h e = eqb-true (sr_kept v % 2) 0 e
  off false z v h e = h

  pub done_keeps : (first : Memory) (i : Ins) (s : Run) (at : ℕ) (bus : Bus) → spares kept i (state_at s at).context ≡ true → Keeps kept first s → Keeps kept first (done i s at bus)
  done_keeps first (SB b t imm) s at bus h k = record { bytes = λ x e. kept_byte s.bytes _ _ x h e ∙ k.bytes x e; masked = k.masked }
  done_keeps first (SH b t imm) s at bus h k = record { bytes = λ x e. kept_half s.bytes _ _ x h e ∙ k.bytes x e; masked = k.masked }
  done_keeps first (SWL b t imm) s at bus h k = record { bytes = λ x e. kept_word s.bytes _ _ x h e ∙ k.bytes x e; masked = k.masked }
  done_keeps first (SW b t imm) s at bus h k = record { bytes = λ x e. kept_word s.bytes _ _ x h e ∙ k.bytes x e; masked = k.masked }
  done_keeps first (SWR b t imm) s at bus h k = record { bytes = λ x e. kept_word s.bytes _ _ x h e ∙ k.bytes x e; masked = k.masked }
  done_keeps first (MTC0 t d) s at bus h k = record { bytes = k.bytes; masked = off (nat_eq d.0 12) s.cop0 (register s.regs t.0) k.masked h }
  done_keeps first _ s at bus h k = record { bytes = k.bytes; masked = k.masked }
