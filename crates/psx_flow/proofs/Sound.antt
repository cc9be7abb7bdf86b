-- What is computed is met: symbolic execution is sound.
use Rattle.std.proofs.Common.{◌≡◌, ℕ, suc, ◌+◌, ◌*◌, ◌%◌, ◌^◌, ◌<◌, List, ◌∷◌, Bool, true, false, None, Some, refl, sym, ap, subst, arith}
use Rattle.std.specs.Prelude.{nat_eq, if◌then◌else◌}
use Rattle.std.proofs.lemmas.Bool.{eq-eqb}
use Rattle.psx_ins.specs.declared.ins.Ins.{Ins}
use Rattle.psx_ins.specs.declared.ins.Ins.TheVariants.{SLL, SRL, SRA, SLLV, SRLV, SRAV, MFHI, MTHI, MFLO, MTLO, MULT, MULTU, DIV, DIVU, ADDU, SUBU, AND, OR, XOR, NOR, SLT, SLTU, ADDIU, SLTI, SLTIU, ANDI, ORI, XORI, LUI, LB, LW, LBU, SB, SW, MFC0, MTC0}
use Rattle.psx_base.specs.Memory.{Memory}
use Rattle.psx_base.specs.Registers.{Registers, register}
use Rattle.psx_base.specs.Context.{settled}
use Rattle.psx_base.specs.Addresses.{place}
use Rattle.psx_cpu.specs.Words.{byte_extended, sign_extended}
use Rattle.psx_cpu.specs.Processor.{Bus, Cop0}
use Rattle.psx_cpu.specs.DataAccess.{load_word, read_byte, write_word, write_byte}
use Rattle.psx_cpu.specs.Changes.{coming, cop0_read}
use Rattle.psx_cpu.specs.Traps.{DataUse, misaligned, or_else, trap_of}
use Rattle.psx_cpu.proofs.Pending.{settled-coming}
use Rattle.psx_flow.specs.declared.node.Test.{Test}
use Rattle.psx_flow.specs.declared.node.Test.TheVariants.{Same, Differ, NotAbove, Above, Negative, NotNegative}
use Rattle.psx_flow.specs.Tree.{Tree, Stop, Do, When, Choose, Loop, Visit, Go, GoTo, size}
use Rattle.psx_flow.specs.Lowered.{opposite}
use Rattle.psx_flow.specs.Run.{Access, Load, Store, PortRead, word_load, word_store, Run, state_at, done, spares_byte, spares_word, spares}
use Rattle.psx_flow.specs.Kernel.{kernel_words}
use Rattle.psx_flow.specs.Meets.{TestHolds, branching, Goal, Calls, Meets}
use Rattle.psx_flow.proofs.Registers.{write_then, read_is, write_is}
use Rattle.psx_flow.proofs.Rules.{Fair, meets_mono}
use Rattle.psx_flow.proofs.Log.{Sort, Nowhere, Code, Kernel, User, Port, word_sort, byte_sort, Entry, applied, Sorted, kernel_word_is, kernel_byte_is, user_word_is, user_byte_is, code_low, kernel_low, port_in, port_true, low_port}
use Rattle.psx_flow.proofs.Sorts.{aligned_of, place_aligned, low_mapped, low_writable, user_port, user_mapped, user_mapped_4, user_writable, user_above, port_writable, above_byte, above_word, word_from, port_from, byte_from, word_into, port_into, byte_into, plain_load, port_load, plain_store, port_store}
use Rattle.psx_flow.proofs.Sym.{Next, Count, counted, by_one, by_two, by_branch, run, load_word_by, load_byte_by, store_word_by, store_byte_by, line_then, Act, Asks, Part, Anew, Calling, Sym}

-- ---- an instruction does what is asked

-- no trap, no store over the kernel's words, and then the goal
abbrev Does : Ins → ℕ → Goal → Goal
Does i at K s = (trap_of i (state_at s at).context ≡ None) × (spares kernel_words i (state_at s at).context ≡ true) × ((bus : Bus) → bus.value < 2 ^ 32 → K (done i s at bus))

cop0_read_line : (z : Cop0) (line : Bool) (n : ℕ) → nat_eq n 13 ≡ false → cop0_read z false n ≡ cop0_read z line n
cop0_read_line z line n e = rw e refl

untrapped : (u : DataUse) (a : ℕ) → a % 4 ≡ 0 → or_else (if nat_eq (a % 4) 0 then None else Some (misaligned u)) None ≡ None
untrapped u a e = ap (λ b. or_else (if b then None else Some (misaligned u)) None) (eq-eqb (a % 4) 0 e)

module _ (m : Memory) (k : Next) (K : Goal) (p : Count) (f : (c : Registers) (z : Cop0) (w : List Entry) (q : List Access) → Sorted w → k c z w q → K (run c z m w q (by_one p))) where
  -- a load: x is the value that is computed, y the one of the definition; g is what the register takes of it
  loaded : (g : ℕ → ℕ) (t : ℕ) (c : Registers) (z : Cop0) (w : List Entry) (q : List Access) (A B : ℕ → Access) (x y : ℕ) → Sorted w → x ≡ y → A x ≡ B x
      → write_then c t (g x) (λ c'. k c' z w (A x ∷ q)) → K (run (settled c (coming t (g y))) z m w (B y ∷ q) (by_one p))
  loaded g t c z w q A B x y ok e s h =
      subst (λ v. K (run (settled c (coming t (g v))) z m w (B v ∷ q) (by_one p))) e
      (subst (λ b. K (run (settled c (coming t (g x))) z m w (b ∷ q) (by_one p))) s
      (subst (λ r. K (run r z m w (A x ∷ q) (by_one p))) (sym (settled-coming c t (g x)))
      (f _ z w _ ok (write_is c t (g x) (λ c'. k c' z w (A x ∷ q)) h))))

  load_word_is : (S : Sort) (a t : ℕ) (c : Registers) (z : Cop0) (w : List Entry) (q : List Access) → word_sort a ≡ S → Sorted w → load_word_by S a t c z m w q k
      → (a % 4 ≡ 0) × ((v : ℕ) → v < 2 ^ 32 → K (run (settled c (coming t (load_word (applied m w) a v))) z m w (word_load a (load_word (applied m w) a v) ∷ q) (by_one p)))
  load_word_is Nowhere a t c z w q e ok h = absurd h
  load_word_is Code a t c z w q e ok h =
      let s = aligned_of a Code e (λ x. cc) in
      let low = code_low (place a) s.1 in
      let even = place_aligned a s.0 in
      let none = low_port (place a) (omega (arith, low)) in (
        s.0,
        λ v lt. loaded (λ y. y) t c z w q (Load 4 (place a)) (word_load a) _ _ ok (word_from (applied m w) a v none (low_mapped (place a) 4 (omega arith))) (plain_load a _ none)
            (kernel_word_is m w (place a) (λ x. write_then c t x (λ c'. k c' z w (Load 4 (place a) x ∷ q))) ok (omega arith) h),
      )
  load_word_is Kernel a t c z w q e ok h =
      let s = aligned_of a Kernel e (λ x. cc) in
      let low = kernel_low (place a) s.1 in
      let even = place_aligned a s.0 in
      let none = low_port (place a) (omega (arith, low)) in (
        s.0,
        λ v lt. loaded (λ y. y) t c z w q (Load 4 (place a)) (word_load a) _ _ ok (word_from (applied m w) a v none (low_mapped (place a) 4 (omega (arith, low)))) (plain_load a _ none)
            (kernel_word_is m w (place a) (λ x. write_then c t x (λ c'. k c' z w (Load 4 (place a) x ∷ q))) ok (omega (arith, low)) h),
      )
  load_word_is User a t c z w q e ok h =
      let s = aligned_of a User e (λ x. cc) in
      let even = place_aligned a s.0 in
      let none = user_port (place a) s.1 in (
        s.0,
        λ v lt. loaded (λ y. y) t c z w q (Load 4 (place a)) (word_load a) _ _ ok (word_from (applied m w) a v none (user_mapped_4 (place a) even s.1)) (plain_load a _ none)
            (user_word_is m w (place a) (λ x. write_then c t x (λ c'. k c' z w (Load 4 (place a) x ∷ q))) ok (user_above (place a) s.1) h),
      )
  load_word_is Port a t c z w q e ok h =
      let s = aligned_of a Port e (λ x. cc) in
      let here = port_true (place a) s.1 in
      (s.0, λ v lt. loaded (λ y. y) t c z w q (PortRead (place a)) (word_load a) _ _ ok (port_from (applied m w) a v here) (port_load a _ here) (h v lt))

  load_byte_is : (S : Sort) (g : ℕ → ℕ) (a t : ℕ) (c : Registers) (z : Cop0) (w : List Entry) (q : List Access) → byte_sort a ≡ S → Sorted w → load_byte_by S g a t c z m w q k
      → K (run (settled c (coming t (g (read_byte (applied m w) a)))) z m w (Load 1 (place a) (read_byte (applied m w) a) ∷ q) (by_one p))
  load_byte_is Nowhere g a t c z w q e ok h = absurd h
  load_byte_is Code g a t c z w q e ok h =
      let low = code_low (place a) e in
      loaded g t c z w q (Load 1 (place a)) (Load 1 (place a)) _ _ ok (byte_from (applied m w) a (low_mapped (place a) 1 (omega arith))) refl
      (kernel_byte_is m w (place a) (λ x. write_then c t (g x) (λ c'. k c' z w (Load 1 (place a) x ∷ q))) ok (omega arith) h)
  load_byte_is Kernel g a t c z w q e ok h =
      let low = kernel_low (place a) e in
      loaded g t c z w q (Load 1 (place a)) (Load 1 (place a)) _ _ ok (byte_from (applied m w) a (low_mapped (place a) 1 (omega (arith, low)))) refl
      (kernel_byte_is m w (place a) (λ x. write_then c t (g x) (λ c'. k c' z w (Load 1 (place a) x ∷ q))) ok (omega (arith, low)) h)
  load_byte_is User g a t c z w q e ok h =
      loaded g t c z w q (Load 1 (place a)) (Load 1 (place a)) _ _ ok (byte_from (applied m w) a (user_mapped (place a) e)) refl
      (user_byte_is m w (place a) (λ x. write_then c t (g x) (λ c'. k c' z w (Load 1 (place a) x ∷ q))) ok (user_above (place a) e) h)
  load_byte_is Port g a t c z w q e ok h = absurd h

  stored : (c : Registers) (z : Cop0) (q : List Access) (x y : Access) (b n : Memory) → b ≡ n → x ≡ y → K (record { regs = c; cop0 = z; bytes = b; seen = x ∷ q; passed = suc p.passed; steps = suc p.steps }) → K (record { regs = c; cop0 = z; bytes = n; seen = y ∷ q; passed = suc p.passed; steps = suc p.steps })
  stored c z q x y b n e g h = subst (λ s. K s) (λ i. record { regs = c; cop0 = z; bytes = e i; seen = g i ∷ q; passed = suc p.passed; steps = suc p.steps }) h

  store_word_is : (S : Sort) (a v : ℕ) (c : Registers) (z : Cop0) (w : List Entry) (q : List Access) → word_sort a ≡ S → Sorted w → store_word_by S a v c z w q k
      → (a % 4 ≡ 0) × (spares_word kernel_words (place a) ≡ true) × K (record { regs = c; cop0 = z; bytes = write_word (applied m w) a v; seen = word_store a v ∷ q; passed = suc p.passed; steps = suc p.steps })
  store_word_is Nowhere a v c z w q e ok h = absurd h
  store_word_is Code a v c z w q e ok h = absurd h
  store_word_is Kernel a v c z w q e ok h =
      let s = aligned_of a Kernel e (λ x. cc) in
      let low = kernel_low (place a) s.1 in
      let even = place_aligned a s.0 in
      let none = low_port (place a) (omega (arith, low)) in
      (s.0, above_word (place a) low.0, stored c z q _ _ _ _ (word_into (applied m w) a v (low_writable (place a) low.1)) (plain_store a v none) (f c z _ _ (omega (arith, low), ok) h))
  store_word_is User a v c z w q e ok h =
      let s = aligned_of a User e (λ x. cc) in
      let high = user_above (place a) s.1 in
      (s.0, above_word (place a) (omega arith), stored c z q _ _ _ _ (word_into (applied m w) a v (user_writable (place a) s.1)) (plain_store a v (user_port (place a) s.1)) (f c z _ _ (high, ok) h))
  store_word_is Port a v c z w q e ok h =
      let s = aligned_of a Port e (λ x. cc) in
      let r = port_in (place a) s.1 in
      (s.0, above_word (place a) (omega (arith, r)), stored c z q _ _ _ _ (port_into (applied m w) a v (port_writable (place a) r)) (port_store a v (port_true (place a) s.1)) (f c z _ _ ok h))

  store_byte_is : (S : Sort) (a v : ℕ) (c : Registers) (z : Cop0) (w : List Entry) (q : List Access) → byte_sort a ≡ S → Sorted w → store_byte_by S a v c z w q k
      → (spares_byte kernel_words (place a) ≡ true) × K (record { regs = c; cop0 = z; bytes = write_byte (applied m w) a v; seen = Store 1 (place a) v ∷ q; passed = suc p.passed; steps = suc p.steps })
  store_byte_is Nowhere a v c z w q e ok h = absurd h
  store_byte_is Code a v c z w q e ok h = absurd h
  store_byte_is Kernel a v c z w q e ok h =
      let low = kernel_low (place a) e in
      (above_byte (place a) low.0, stored c z q _ _ _ _ (byte_into (applied m w) a v (low_writable (place a) low.1)) refl (f c z _ _ (low.1, ok) h))
  store_byte_is User a v c z w q e ok h =
      let high = user_above (place a) e in
      (above_byte (place a) (omega arith), stored c z q _ _ _ _ (byte_into (applied m w) a v (user_writable (place a) e)) refl (f c z _ _ (high, ok) h))
  store_byte_is Port a v c z w q e ok h = absurd h

  by_line : (b : Bool) (t n : ℕ) (c : Registers) (z : Cop0) (w : List Entry) (q : List Access) → nat_eq n 13 ≡ b → (line : Bool) → line_then b (λ line. write_then c t (cop0_read z line n) (λ c'. k c' z w q))
      → write_then c t (cop0_read z line n) (λ c'. k c' z w q)
  by_line true t n c z w q e line g = g line
  by_line false t n c z w q e line g = subst (λ v. write_then c t v (λ c'. k c' z w q)) (cop0_read_line z line n e) g

  act_is : (i : Ins) (at : ℕ) (c : Registers) (z : Cop0) (w : List Entry) (q : List Access) → Sorted w → Act i c z m w q k → Does i at K (run c z m w q p)
  act_is (ADDU s t d) at c z w q ok h = (refl, refl, λ bus lt. f _ z w q ok (write_is c d.0 _ _ (read_is c t.0 _ (read_is c s.0 _ h))))
  act_is (SUBU s t d) at c z w q ok h = (refl, refl, λ bus lt. f _ z w q ok (write_is c d.0 _ _ (read_is c t.0 _ (read_is c s.0 _ h))))
  act_is (AND s t d) at c z w q ok h = (refl, refl, λ bus lt. f _ z w q ok (write_is c d.0 _ _ (read_is c t.0 _ (read_is c s.0 _ h))))
  act_is (OR s t d) at c z w q ok h = (refl, refl, λ bus lt. f _ z w q ok (write_is c d.0 _ _ (read_is c t.0 _ (read_is c s.0 _ h))))
  act_is (XOR s t d) at c z w q ok h = (refl, refl, λ bus lt. f _ z w q ok (write_is c d.0 _ _ (read_is c t.0 _ (read_is c s.0 _ h))))
  act_is (NOR s t d) at c z w q ok h = (refl, refl, λ bus lt. f _ z w q ok (write_is c d.0 _ _ (read_is c t.0 _ (read_is c s.0 _ h))))
  act_is (SLT s t d) at c z w q ok h = (refl, refl, λ bus lt. f _ z w q ok (write_is c d.0 _ _ (read_is c t.0 _ (read_is c s.0 _ h))))
  act_is (SLTU s t d) at c z w q ok h = (refl, refl, λ bus lt. f _ z w q ok (write_is c d.0 _ _ (read_is c t.0 _ (read_is c s.0 _ h))))
  act_is (SLLV s t d) at c z w q ok h = (refl, refl, λ bus lt. f _ z w q ok (write_is c d.0 _ _ (read_is c t.0 _ (read_is c s.0 _ h))))
  act_is (SRLV s t d) at c z w q ok h = (refl, refl, λ bus lt. f _ z w q ok (write_is c d.0 _ _ (read_is c t.0 _ (read_is c s.0 _ h))))
  act_is (SRAV s t d) at c z w q ok h = (refl, refl, λ bus lt. f _ z w q ok (write_is c d.0 _ _ (read_is c t.0 _ (read_is c s.0 _ h))))
  act_is (SLL t d n) at c z w q ok h = (refl, refl, λ bus lt. f _ z w q ok (write_is c d.0 _ _ (read_is c t.0 _ h)))
  act_is (SRL t d n) at c z w q ok h = (refl, refl, λ bus lt. f _ z w q ok (write_is c d.0 _ _ (read_is c t.0 _ h)))
  act_is (SRA t d n) at c z w q ok h = (refl, refl, λ bus lt. f _ z w q ok (write_is c d.0 _ _ (read_is c t.0 _ h)))
  act_is (MULT s t) at c z w q ok h = (refl, refl, λ bus lt. f _ z w q ok (read_is c t.0 _ (read_is c s.0 _ h)))
  act_is (MULTU s t) at c z w q ok h = (refl, refl, λ bus lt. f _ z w q ok (read_is c t.0 _ (read_is c s.0 _ h)))
  act_is (DIV s t) at c z w q ok h = (refl, refl, λ bus lt. f _ z w q ok (read_is c t.0 _ (read_is c s.0 _ h)))
  act_is (DIVU s t) at c z w q ok h = (refl, refl, λ bus lt. f _ z w q ok (read_is c t.0 _ (read_is c s.0 _ h)))
  act_is (MFHI d) at c z w q ok h = (refl, refl, λ bus lt. f _ z w q ok (write_is c d.0 _ _ h))
  act_is (MFLO d) at c z w q ok h = (refl, refl, λ bus lt. f _ z w q ok (write_is c d.0 _ _ h))
  act_is (MTHI s) at c z w q ok h = (refl, refl, λ bus lt. f _ z w q ok (read_is c s.0 _ h))
  act_is (MTLO s) at c z w q ok h = (refl, refl, λ bus lt. f _ z w q ok (read_is c s.0 _ h))
  act_is (ADDIU s t imm) at c z w q ok h = (refl, refl, λ bus lt. f _ z w q ok (write_is c t.0 _ _ (read_is c s.0 _ h)))
  act_is (SLTI s t imm) at c z w q ok h = (refl, refl, λ bus lt. f _ z w q ok (write_is c t.0 _ _ (read_is c s.0 _ h)))
  act_is (SLTIU s t imm) at c z w q ok h = (refl, refl, λ bus lt. f _ z w q ok (write_is c t.0 _ _ (read_is c s.0 _ h)))
  act_is (ANDI s t imm) at c z w q ok h = (refl, refl, λ bus lt. f _ z w q ok (write_is c t.0 _ _ (read_is c s.0 _ h)))
  act_is (ORI s t imm) at c z w q ok h = (refl, refl, λ bus lt. f _ z w q ok (write_is c t.0 _ _ (read_is c s.0 _ h)))
  act_is (XORI s t imm) at c z w q ok h = (refl, refl, λ bus lt. f _ z w q ok (write_is c t.0 _ _ (read_is c s.0 _ h)))
  act_is (LUI t imm) at c z w q ok h = (refl, refl, λ bus lt. f _ z w q ok (write_is c t.0 _ _ h))
  act_is (MFC0 t d) at c z w q ok h = (
    refl,
    refl,
    λ bus lt. subst (λ r. K (run r z m w q (by_one p))) (sym (settled-coming c t.0 _)) (f _ z w q ok (write_is c t.0 _ _ (by_line (nat_eq d.0 13) t.0 d.0 c z w q refl bus.line h))),
  )
  act_is (MTC0 t d) at c z w q ok h = let g = read_is c t.0 _ h in (refl, g.0, λ bus lt. f _ _ w q ok g.1)
  act_is (LW s t imm) at c z w q ok h =
      let a : ℕ = (register c s.0 + sign_extended imm) % 2 ^ 32 in
      let r = load_word_is (word_sort a) a t.0 c z w q refl ok (read_is c s.0 _ h) in
      (untrapped (record { at = a; stores = false; multiple = Some 4 }) a r.0, refl, λ bus lt. r.1 bus.value lt)
  act_is (LB s t imm) at c z w q ok h =
      let a : ℕ = (register c s.0 + sign_extended imm) % 2 ^ 32 in
      (refl, refl, λ bus lt. load_byte_is (byte_sort a) byte_extended a t.0 c z w q refl ok (read_is c s.0 _ h))
  act_is (LBU s t imm) at c z w q ok h =
      let a : ℕ = (register c s.0 + sign_extended imm) % 2 ^ 32 in
      (refl, refl, λ bus lt. load_byte_is (byte_sort a) (λ v. v) a t.0 c z w q refl ok (read_is c s.0 _ h))
  act_is (SW s t imm) at c z w q ok h =
      let a : ℕ = (register c s.0 + sign_extended imm) % 2 ^ 32 in
      let r = store_word_is (word_sort a) a (register c t.0) c z w q refl ok (read_is c t.0 _ (read_is c s.0 _ h)) in
      (untrapped (record { at = a; stores = true; multiple = Some 4 }) a r.0, r.1, λ bus lt. r.2)
  act_is (SB s t imm) at c z w q ok h =
      let a : ℕ = (register c s.0 + sign_extended imm) % 2 ^ 32 in
      let r = store_byte_is (byte_sort a) a (register c t.0 % 2 ^ 8) c z w q refl ok (read_is c t.0 _ (read_is c s.0 _ h)) in
      (refl, r.0, λ bus lt. r.1)
  act_is _ at c z w q ok h = absurd h

pub asks_is : (t : Test) (c : Registers) (k : Type 0 → Type 0) → Asks t c k → k (TestHolds t c)
asks_is (Same a b) c k h = read_is c b.0 _ (read_is c a.0 _ h)
asks_is (Differ a b) c k h = read_is c b.0 _ (read_is c a.0 _ h)
asks_is (NotAbove a) c k h = read_is c a.0 _ h
asks_is (Above a) c k h = read_is c a.0 _ h
asks_is (Negative a) c k h = read_is c a.0 _ h
asks_is (NotNegative a) c k h = read_is c a.0 _ h

-- at the parts of a state in K there is a state of L
abbrev pub Gives : Part → Goal → Type 0
Gives K L = (c : Registers) (z : Cop0) (m : Memory) (w : List Entry) (q : List Access) (p : Count) → Sorted w → K c z m w q p → L (run c z m w q p)

pub anew : (K : Part) (L : Goal) → Gives K L → (s : Run) → Anew K s → L s
anew K L f s a = subst (λ b. L (record { regs = s.regs; cop0 = s.cop0; bytes = b; seen = s.seen; passed = s.passed; steps = s.steps })) (sym a.same) (f s.regs s.cop0 a.memory a.log s.seen (counted s) a.sorted a.goes)

pub sound : (C : Calls) → Fair C → (T : Tree) (at : ℕ) (K : Part) (L : Goal) (G : ℕ → Goal) → Gives K L → Gives (Sym C T at K G) (Meets kernel_words C T at L G)
sound C fair Stop at K L G f c z m w q p ok h = f c z m w q p ok h
sound C fair (Do i r) at K L G f c z m w q p ok h =
    act_is m (λ c' z' w' q'. Sym C r (at + 4) K G c' z' m w' q' (by_one p)) (Meets kernel_words C r (at + 4) L G) p
    (λ c' z' w' q' ok' g. sound C fair r (at + 4) K L G f c' z' m w' q' (by_one p) ok' g) i at c z w q ok h
sound C fair (When t a r) at K L G f c z m w q p ok h =
    let end : ℕ = at + (8 + 4 * size a) in
    let behind : Part = Sym C r end K G in
    let goal : Goal = Meets kernel_words C r end L G in
    let rest = sound C fair r end K L G f in (
      λ e. sound C fair a (at + 8) behind goal G rest c z m w q (by_two p) ok (asks_is t c (λ P. P → Sym C a (at + 8) behind G c z m w q (by_two p)) h.0 e),
      λ e. rest c z m w q (by_two p) ok (asks_is (opposite t) c (λ P. P → behind c z m w q (by_two p)) h.1 e),
    )
sound C fair (Choose t a b r) at K L G f c z m w q p ok h =
    let other : ℕ = at + (16 + 4 * size a) in
    let end : ℕ = at + (16 + 4 * size a + 4 * size b) in
    let behind : Part = Sym C r end K G in
    let over : Part = λ c' z' m' w' q' p'. behind c' z' m' w' q' (by_branch p') in
    let goal : Goal = Meets kernel_words C r end L G in
    let rest = sound C fair r end K L G f in (
      λ e. sound C fair a (at + 8) over (λ m. goal (branching m)) G (λ c' z' m' w' q' p'. rest c' z' m' w' q' (by_branch p')) c z m w q (by_two p) ok
          (asks_is t c (λ P. P → Sym C a (at + 8) over G c z m w q (by_two p)) h.0 e),
      λ e. sound C fair b other behind goal G rest c z m w q (by_two p) ok (asks_is (opposite t) c (λ P. P → Sym C b other behind G c z m w q (by_two p)) h.1 e),
    )
sound C fair (Loop t a r) at K L G f c z m w q p ok h =
    meets_mono kernel_words C fair (Loop t a Stop) at (Anew (Sym C r (at + (16 + 4 * size a)) K G)) (Meets kernel_words C r (at + (16 + 4 * size a)) L G) G G _
    (anew _ _ (sound C fair r (at + (16 + 4 * size a)) K L G f)) (λ b s g. g) h
sound C fair (Visit a r) at K L G f c z m w q p ok h =
    fair.mono a (at + 8) _ _ _ (anew _ _ (sound C fair r (at + 8) K L G f)) ((write_is c 31 (at + 8) (λ c'. Calling C a (at + 8) (Sym C r (at + 8) K G) c' z m w q (by_two p)) h).called ok)
sound C fair (Go a r) at K L G f c z m w q p ok h = h
sound C fair (GoTo n r) at K L G f c z m w q p ok h = read_is c n.0 _ h
