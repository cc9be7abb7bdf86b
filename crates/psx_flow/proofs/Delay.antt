-- The law of the load delay: an instruction that neither reads nor writes the register of the pending load does what it does where that load is settled.
use Rattle.std.proofs.Common.{◌≡◌, ℕ, zero, suc, ◌+◌, ◌-◌, ◌*◌, ◌/◌, ◌%◌, ◌^◌, Bool, true, false, ◌||◌, not, Some, None, List, [], ◌∷◌, refl, sym, ap, ◌∙◌}
use Rattle.std.specs.Prelude.{nat_eq, nat_lt, nat_le, int_lt, ◌+ℤ◌, ◌-ℤ◌, ◌*ℤ◌, bit_and, bit_or, bit_xor, if◌then◌else◌}
use Rattle.std.specs.Int.{w64, cast_unsigned}
use Rattle.std.proofs.lemmas.Bool.{true≢false}
use Rattle.psx_ins.specs.declared.reg.Reg.{Reg}
use Rattle.psx_ins.specs.declared.ins.Ins.{Ins}
use Rattle.psx_ins.specs.declared.ins.Ins.TheVariants.{SLL, SRL, SRA, SLLV, SRLV, SRAV, JR, JALR, SYSCALL, BREAK, MFHI, MTHI, MFLO, MTLO, MULT, MULTU, DIV, DIVU, ADD, ADDU, SUB, SUBU, AND, OR, XOR, NOR, SLT, SLTU, BLTZ, BGEZ, BLTZAL, BGEZAL, J, JAL, BEQ, BNE, BLEZ, BGTZ, ADDI, ADDIU, SLTI, SLTIU, ANDI, ORI, XORI, LUI, LB, LH, LWL, LW, LBU, LHU, LWR, SB, SH, SWL, SW, SWR, MFC0, MTC0, RFE}
use Rattle.psx_base.specs.Memory.{Memory}
use Rattle.psx_base.specs.Registers.{Registers, register, with_register, chosen}
use Rattle.psx_base.specs.Addresses.{place}
use Rattle.psx_cpu.specs.Words.{signed, has_word, byte_extended, sign_extended, truth, shifted_signed, quotient, remainder, quotient_signed, remainder_signed}
use Rattle.psx_cpu.specs.Processor.{State, Bus, Cop0}
use Rattle.psx_cpu.specs.DataAccess.{read_byte, read_half, read_word, load_word, write_byte, write_half, write_word, round, loaded_left, loaded_right, stored_left, stored_right}
use Rattle.psx_cpu.specs.Changes.{writes, hi_lo, memory_is, branch_target, jumps, links, loads, coming, cop0_written}
use Rattle.psx_cpu.specs.Effect.{effect}
use Rattle.psx_cpu.specs.Traps.{load_at, store_at, use_trap, raises, or_else, trap_of}
use Rattle.psx_flow.specs.Spaced.{registers_of, is_among}
use Rattle.psx_flow.specs.Well.{enters_or_leaves}
use Rattle.psx_flow.specs.Run.{Access, Load, Store, word_load, word_store, accessed}

-- ---- another register is read as before

unchosen : (b : Bool) (v x : ℕ) → b ≡ false → x ≡ chosen b v x
unchosen b v x e = sym (ap (λ b. chosen b v x) e)

pub same : (c : Registers) (n v s : ℕ) → nat_eq n s ≡ false → register c s ≡ register (with_register c n v) s
same c n v zero h = refl
same c n v (suc zero) h = unchosen (nat_eq n 1) v c.r1 h
same c n v (suc (suc zero)) h = unchosen (nat_eq n 2) v c.r2 h
same c n v (suc (suc (suc zero))) h = unchosen (nat_eq n 3) v c.r3 h
same c n v (suc (suc (suc (suc zero)))) h = unchosen (nat_eq n 4) v c.r4 h
same c n v (suc (suc (suc (suc (suc zero))))) h = unchosen (nat_eq n 5) v c.r5 h
same c n v (suc (suc (suc (suc (suc (suc zero)))))) h = unchosen (nat_eq n 6) v c.r6 h
same c n v (suc (suc (suc (suc (suc (suc (suc zero))))))) h = unchosen (nat_eq n 7) v c.r7 h
same c n v (suc (suc (suc (suc (suc (suc (suc (suc zero)))))))) h = unchosen (nat_eq n 8) v c.r8 h
same c n v (suc (suc (suc (suc (suc (suc (suc (suc (suc zero))))))))) h = unchosen (nat_eq n 9) v c.r9 h
same c n v (suc (suc (suc (suc (suc (suc (suc (suc (suc (suc zero)))))))))) h = unchosen (nat_eq n 10) v c.r10 h
same c n v (suc (suc (suc (suc (suc (suc (suc (suc (suc (suc (suc zero))))))))))) h = unchosen (nat_eq n 11) v c.r11 h
same c n v (suc (suc (suc (suc (suc (suc (suc (suc (suc (suc (suc (suc zero)))))))))))) h = unchosen (nat_eq n 12) v c.r12 h
same c n v (suc (suc (suc (suc (suc (suc (suc (suc (suc (suc (suc (suc (suc zero))))))))))))) h = unchosen (nat_eq n 13) v c.r13 h
same c n v (suc (suc (suc (suc (suc (suc (suc (suc (suc (suc (suc (suc (suc (suc zero)))))))))))))) h = unchosen (nat_eq n 14) v c.r14 h
same c n v (suc (suc (suc (suc (suc (suc (suc (suc (suc (suc (suc (suc (suc (suc (suc zero))))))))))))))) h = unchosen (nat_eq n 15) v c.r15 h
same c n v (suc (suc (suc (suc (suc (suc (suc (suc (suc (suc (suc (suc (suc (suc (suc (suc zero)))))))))))))))) h = unchosen (nat_eq n 16) v c.r16 h
same c n v (suc (suc (suc (suc (suc (suc (suc (suc (suc (suc (suc (suc (suc (suc (suc (suc (suc zero))))))))))))))))) h = unchosen (nat_eq n 17) v c.r17 h
same c n v (suc (suc (suc (suc (suc (suc (suc (suc (suc (suc (suc (suc (suc (suc (suc (suc (suc (suc zero)))))))))))))))))) h = unchosen (nat_eq n 18) v c.r18 h
same c n v (suc (suc (suc (suc (suc (suc (suc (suc (suc (suc (suc (suc (suc (suc (suc (suc (suc (suc (suc zero))))))))))))))))))) h = unchosen (nat_eq n 19) v c.r19 h
same c n v (suc (suc (suc (suc (suc (suc (suc (suc (suc (suc (suc (suc (suc (suc (suc (suc (suc (suc (suc (suc zero)))))))))))))))))))) h = unchosen (nat_eq n 20) v c.r20 h
same c n v (suc (suc (suc (suc (suc (suc (suc (suc (suc (suc (suc (suc (suc (suc (suc (suc (suc (suc (suc (suc (suc zero))))))))))))))))))))) h = unchosen (nat_eq n 21) v c.r21 h
same c n v (suc (suc (suc (suc (suc (suc (suc (suc (suc (suc (suc (suc (suc (suc (suc (suc (suc (suc (suc (suc (suc (suc zero)))))))))))))))))))))) h = unchosen (nat_eq n 22) v c.r22 h
same c n v (suc (suc (suc (suc (suc (suc (suc (suc (suc (suc (suc (suc (suc (suc (suc (suc (suc (suc (suc (suc (suc (suc (suc zero))))))))))))))))))))))) h = unchosen (nat_eq n 23) v c.r23 h
same c n v (suc (suc (suc (suc (suc (suc (suc (suc (suc (suc (suc (suc (suc (suc (suc (suc (suc (suc (suc (suc (suc (suc (suc (suc zero)))))))))))))))))))))))) h = unchosen (nat_eq n 24) v c.r24 h
same c n v (suc (suc (suc (suc (suc (suc (suc (suc (suc (suc (suc (suc (suc (suc (suc (suc (suc (suc (suc (suc (suc (suc (suc (suc (suc zero))))))))))))))))))))))))) h = unchosen (nat_eq n 25) v c.r25 h
same c n v (suc (suc (suc (suc (suc (suc (suc (suc (suc (suc (suc (suc (suc (suc (suc (suc (suc (suc (suc (suc (suc (suc (suc (suc (suc (suc zero)))))))))))))))))))))))))) h = unchosen (nat_eq n 26) v c.r26 h
same c n v (suc (suc (suc (suc (suc (suc (suc (suc (suc (suc (suc (suc (suc (suc (suc (suc (suc (suc (suc (suc (suc (suc (suc (suc (suc (suc (suc zero))))))))))))))))))))))))))) h = unchosen (nat_eq n 27) v c.r27 h
same c n v (suc (suc (suc (suc (suc (suc (suc (suc (suc (suc (suc (suc (suc (suc (suc (suc (suc (suc (suc (suc (suc (suc (suc (suc (suc (suc (suc (suc zero)))))))))))))))))))))))))))) h = unchosen (nat_eq n 28) v c.r28 h
same c n v (suc (suc (suc (suc (suc (suc (suc (suc (suc (suc (suc (suc (suc (suc (suc (suc (suc (suc (suc (suc (suc (suc (suc (suc (suc (suc (suc (suc (suc zero))))))))))))))))))))))))))))) h = unchosen (nat_eq n 29) v c.r29 h
same c n v (suc (suc (suc (suc (suc (suc (suc (suc (suc (suc (suc (suc (suc (suc (suc (suc (suc (suc (suc (suc (suc (suc (suc (suc (suc (suc (suc (suc (suc (suc zero)))))))))))))))))))))))))))))) h = unchosen (nat_eq n 30) v c.r30 h
same c n v (suc (suc (suc (suc (suc (suc (suc (suc (suc (suc (suc (suc (suc (suc (suc (suc (suc (suc (suc (suc (suc (suc (suc (suc (suc (suc (suc (suc (suc (suc (suc zero))))))))))))))))))))))))))))))) h = unchosen (nat_eq n 31) v c.r31 h
same c n v (suc (suc (suc (suc (suc (suc (suc (suc (suc (suc (suc (suc (suc (suc (suc (suc (suc (suc (suc (suc (suc (suc (suc (suc (suc (suc (suc (suc (suc (suc (suc (suc s)))))))))))))))))))))))))))))))) h = refl

pub neither : (a b : Bool) → (a || b) ≡ false → (a ≡ false) × (b ≡ false)
neither true b h = absurd (true≢false h)
neither false b h = (refl, h)

-- ---- a state with a pending load, and the same with it settled

module _ (c : Registers) (n v pc next : ℕ) (slot : Bool) (z : Cop0) (m : Memory) (bus : Bus) where
  abbrev pub waiting : State
  waiting = record { context = record { regs = c; pending = Some (n, v); pc = pc; next = next; in_slot = slot }; cop0 = z; bytes = m }

  abbrev pub settled_one : State
  settled_one = record { context = record { regs = with_register c n v; pending = None; pc = pc; next = next; in_slot = slot }; cop0 = z; bytes = m }

  -- the operand of a register that is read
  of : (s : Reg) (rs : List Reg) → is_among n (s ∷ rs) ≡ false → register c s.0 ≡ register (with_register c n v) s.0
  of s rs h = same c n v s.0 (neither (nat_eq n s.0) (is_among n rs) h).0

  or_of : (s t : Reg) → is_among n (s ∷ t ∷ []) ≡ false → register c t.0 ≡ register (with_register c n v) t.0
  or_of s t h = of t [] (neither (nat_eq n s.0) (is_among n (t ∷ [])) h).1

  address : (s : Reg) (rs : List Reg) (imm : ℕ) → is_among n (s ∷ rs) ≡ false → (register c s.0 + sign_extended imm) % 2 ^ 32 ≡ (register (with_register c n v) s.0 + sign_extended imm) % 2 ^ 32
  address s rs imm h = ap (λ a. (a + sign_extended imm) % 2 ^ 32) (of s rs h)

  -- a load of another register
  loaded : (t : Reg) (x y : ℕ) → is_among n (t ∷ []) ≡ false → x ≡ y → loads waiting t x ≡ loads settled_one t y
  loaded t x y h e =
      let f = (neither (nat_eq n t.0) false h).0 in
      λ j. record { context = record { regs = if f j then c else with_register c n v; pending = coming t.0 (e j); pc = next; next = (next + 4) % 2 ^ 32; in_slot = false }; cop0 = z; bytes = m }

  -- the value that LWL and LWR take
  newest : (s t : Reg) → is_among n (s ∷ t ∷ []) ≡ false → (if nat_eq n t.0 then v else register c t.0) ≡ register (with_register c n v) t.0
  newest s t h = ap (λ b. if b then v else register c t.0) (neither (nat_eq n t.0) false (neither (nat_eq n s.0) (is_among n (t ∷ [])) h).1).0 ∙ or_of s t h

  -- the effect, for each instruction but SYSCALL, BREAK and RFE, which have none
  pub delayed : (i : Ins) → is_among n (registers_of i).0 ≡ false → is_among n (registers_of i).1 ≡ false → enters_or_leaves i ≡ false → effect i waiting bus ≡ effect i settled_one bus
  delayed (SLL t d n) r w g = λ j. writes settled_one d ((of t [] r j) * 2 ^ n % 2 ^ 32)
  delayed (SRL t d n) r w g = λ j. writes settled_one d ((of t [] r j) / 2 ^ n)
  delayed (SRA t d n) r w g = λ j. writes settled_one d (shifted_signed (of t [] r j) n)
  delayed (SLLV s t d) r w g = λ j. writes settled_one d ((or_of s t r j) * 2 ^ ((of s (t ∷ []) r j) % 32) % 2 ^ 32)
  delayed (SRLV s t d) r w g = λ j. writes settled_one d ((or_of s t r j) / 2 ^ ((of s (t ∷ []) r j) % 32))
  delayed (SRAV s t d) r w g = λ j. writes settled_one d (shifted_signed (or_of s t r j) ((of s (t ∷ []) r j) % 32))
  delayed (JR s) r w g = λ j. jumps settled_one (of s [] r j)
  delayed (JALR s d) r w g = λ j. links settled_one d.0 (of s [] r j)
  delayed (MFHI d) r w g = refl
  delayed (MTHI s) r w g = λ j. hi_lo settled_one (of s [] r j) c.lo
  delayed (MFLO d) r w g = refl
  delayed (MTLO s) r w g = λ j. hi_lo settled_one c.hi (of s [] r j)
  delayed (MULT s t) r w g = λ j. let p = cast_unsigned w64 (signed (of s (t ∷ []) r j) *ℤ signed (or_of s t r j)) in hi_lo settled_one (p / 2 ^ 32) (p % 2 ^ 32)
  delayed (MULTU s t) r w g = λ j. hi_lo settled_one ((of s (t ∷ []) r j) * (or_of s t r j) / 2 ^ 32) ((of s (t ∷ []) r j) * (or_of s t r j) % 2 ^ 32)
  delayed (DIV s t) r w g = λ j. hi_lo settled_one (remainder_signed (of s (t ∷ []) r j) (or_of s t r j)) (quotient_signed (of s (t ∷ []) r j) (or_of s t r j))
  delayed (DIVU s t) r w g = λ j. hi_lo settled_one (remainder (of s (t ∷ []) r j) (or_of s t r j)) (quotient (of s (t ∷ []) r j) (or_of s t r j))
  delayed (ADD s t d) r w g = λ j. writes settled_one d (((of s (t ∷ []) r j) + (or_of s t r j)) % 2 ^ 32)
  delayed (ADDU s t d) r w g = λ j. writes settled_one d (((of s (t ∷ []) r j) + (or_of s t r j)) % 2 ^ 32)
  delayed (SUB s t d) r w g = λ j. writes settled_one d (((of s (t ∷ []) r j) + 2 ^ 32 - (or_of s t r j)) % 2 ^ 32)
  delayed (SUBU s t d) r w g = λ j. writes settled_one d (((of s (t ∷ []) r j) + 2 ^ 32 - (or_of s t r j)) % 2 ^ 32)
  delayed (AND s t d) r w g = λ j. writes settled_one d (bit_and (of s (t ∷ []) r j) (or_of s t r j))
  delayed (OR s t d) r w g = λ j. writes settled_one d (bit_or (of s (t ∷ []) r j) (or_of s t r j))
  delayed (XOR s t d) r w g = λ j. writes settled_one d (bit_xor (of s (t ∷ []) r j) (or_of s t r j))
  delayed (NOR s t d) r w g = λ j. writes settled_one d (2 ^ 32 - 1 - bit_or (of s (t ∷ []) r j) (or_of s t r j))
  delayed (SLT s t d) r w g = λ j. writes settled_one d (truth (int_lt (signed (of s (t ∷ []) r j)) (signed (or_of s t r j))))
  delayed (SLTU s t d) r w g = λ j. writes settled_one d (truth (nat_lt (of s (t ∷ []) r j) (or_of s t r j)))
  delayed (BLTZ s imm) r w g = λ j. jumps settled_one (branch_target settled_one.context (nat_le (2 ^ 31) (of s [] r j)) imm)
  delayed (BGEZ s imm) r w g = λ j. jumps settled_one (branch_target settled_one.context (not (nat_le (2 ^ 31) (of s [] r j))) imm)
  delayed (BLTZAL s imm) r w g = λ j. links settled_one 31 (branch_target settled_one.context (nat_le (2 ^ 31) (of s [] r j)) imm)
  delayed (BGEZAL s imm) r w g = λ j. links settled_one 31 (branch_target settled_one.context (not (nat_le (2 ^ 31) (of s [] r j))) imm)
  delayed (J target) r w g = refl
  delayed (JAL target) r w g = refl
  delayed (BEQ s t imm) r w g = λ j. jumps settled_one (branch_target settled_one.context (nat_eq (of s (t ∷ []) r j) (or_of s t r j)) imm)
  delayed (BNE s t imm) r w g = λ j. jumps settled_one (branch_target settled_one.context (not (nat_eq (of s (t ∷ []) r j) (or_of s t r j))) imm)
  delayed (BLEZ s imm) r w g = λ j. jumps settled_one (branch_target settled_one.context ((nat_le (2 ^ 31) (of s [] r j) || nat_eq (of s [] r j) 0)) imm)
  delayed (BGTZ s imm) r w g = λ j. jumps settled_one (branch_target settled_one.context (not (nat_le (2 ^ 31) (of s [] r j) || nat_eq (of s [] r j) 0)) imm)
  delayed (ADDI s t imm) r w g = λ j. writes settled_one t (((of s [] r j) + sign_extended imm) % 2 ^ 32)
  delayed (ADDIU s t imm) r w g = λ j. writes settled_one t (((of s [] r j) + sign_extended imm) % 2 ^ 32)
  delayed (SLTI s t imm) r w g = λ j. writes settled_one t (truth (int_lt (signed (of s [] r j)) (signed (sign_extended imm))))
  delayed (SLTIU s t imm) r w g = λ j. writes settled_one t (truth (nat_lt (of s [] r j) (sign_extended imm)))
  delayed (ANDI s t imm) r w g = λ j. writes settled_one t (bit_and (of s [] r j) imm)
  delayed (ORI s t imm) r w g = λ j. writes settled_one t (bit_or (of s [] r j) imm)
  delayed (XORI s t imm) r w g = λ j. writes settled_one t (bit_xor (of s [] r j) imm)
  delayed (LUI t imm) r w g = refl
  delayed (LB s t imm) r w g = loaded t _ _ w (λ j. byte_extended (read_byte m (address s [] imm r j)))
  delayed (LH s t imm) r w g = loaded t _ _ w (λ j. sign_extended (read_half m (address s [] imm r j)))
  delayed (LWL s t imm) r w g = loaded t _ _ w (λ j. loaded_left (address s (t ∷ []) imm r j % 4) (newest s t r j) (read_word m (round (address s (t ∷ []) imm r j))))
  delayed (LW s t imm) r w g = loaded t _ _ w (λ j. load_word m (address s [] imm r j) bus.value)
  delayed (LBU s t imm) r w g = loaded t _ _ w (λ j. read_byte m (address s [] imm r j))
  delayed (LHU s t imm) r w g = loaded t _ _ w (λ j. read_half m (address s [] imm r j))
  delayed (LWR s t imm) r w g = loaded t _ _ w (λ j. loaded_right (address s (t ∷ []) imm r j % 4) (newest s t r j) (read_word m (round (address s (t ∷ []) imm r j))))
  delayed (SB s t imm) r w g = λ j. memory_is settled_one (write_byte m (address s (t ∷ []) imm r j) ((or_of s t r j) % 2 ^ 8))
  delayed (SH s t imm) r w g = λ j. memory_is settled_one (write_half m (address s (t ∷ []) imm r j) ((or_of s t r j) % 2 ^ 16))
  delayed (SWL s t imm) r w g = λ j. memory_is settled_one (write_word m (round (address s (t ∷ []) imm r j)) (stored_left (address s (t ∷ []) imm r j % 4) (or_of s t r j) (read_word m (round (address s (t ∷ []) imm r j)))))
  delayed (SW s t imm) r w g = λ j. memory_is settled_one (write_word m (address s (t ∷ []) imm r j) (or_of s t r j))
  delayed (SWR s t imm) r w g = λ j. memory_is settled_one (write_word m (round (address s (t ∷ []) imm r j)) (stored_right (address s (t ∷ []) imm r j % 4) (or_of s t r j) (read_word m (round (address s (t ∷ []) imm r j)))))
  delayed (MFC0 t d) r w g = loaded t _ _ w refl
  delayed (MTC0 t d) r w g = λ j. cop0_written settled_one d.0 (of t [] r j)
  delayed (SYSCALL code) r w g = absurd (true≢false g)
  delayed (BREAK code) r w g = absurd (true≢false g)
  delayed RFE r w g = absurd (true≢false g)

  -- the trap
  pub delayed_trap : (i : Ins) → is_among n (registers_of i).0 ≡ false → trap_of i waiting.context ≡ trap_of i settled_one.context
  delayed_trap (ADD s t d) r = λ j. raises (not (has_word (signed (of s (t ∷ []) r j) +ℤ signed (or_of s t r j)))) 12
  delayed_trap (SUB s t d) r = λ j. raises (not (has_word (signed (of s (t ∷ []) r j) -ℤ signed (or_of s t r j)))) 12
  delayed_trap (ADDI s t imm) r = λ j. raises (not (has_word (signed (of s [] r j) +ℤ signed (sign_extended imm)))) 12
  delayed_trap (LB s t imm) r = λ j. or_else (use_trap (load_at (address s [] imm r j) None)) None
  delayed_trap (LH s t imm) r = λ j. or_else (use_trap (load_at (address s [] imm r j) (Some 2))) None
  delayed_trap (LWL s t imm) r = λ j. or_else (use_trap (load_at (address s (t ∷ []) imm r j) None)) None
  delayed_trap (LW s t imm) r = λ j. or_else (use_trap (load_at (address s [] imm r j) (Some 4))) None
  delayed_trap (LBU s t imm) r = λ j. or_else (use_trap (load_at (address s [] imm r j) None)) None
  delayed_trap (LHU s t imm) r = λ j. or_else (use_trap (load_at (address s [] imm r j) (Some 2))) None
  delayed_trap (LWR s t imm) r = λ j. or_else (use_trap (load_at (address s (t ∷ []) imm r j) None)) None
  delayed_trap (SB s t imm) r = λ j. or_else (use_trap (store_at (address s (t ∷ []) imm r j) None)) None
  delayed_trap (SH s t imm) r = λ j. or_else (use_trap (store_at (address s (t ∷ []) imm r j) (Some 2))) None
  delayed_trap (SWL s t imm) r = λ j. or_else (use_trap (store_at (address s (t ∷ []) imm r j) None)) None
  delayed_trap (SW s t imm) r = λ j. or_else (use_trap (store_at (address s (t ∷ []) imm r j) (Some 4))) None
  delayed_trap (SWR s t imm) r = λ j. or_else (use_trap (store_at (address s (t ∷ []) imm r j) None)) None
  delayed_trap _ r = refl

  -- the access
  pub delayed_access : (i : Ins) (q : List Access) → is_among n (registers_of i).0 ≡ false → accessed i waiting bus q ≡ accessed i settled_one bus q
  delayed_access (LB s t imm) q r = λ j. Load 1 (place (address s [] imm r j)) (read_byte m (address s [] imm r j)) ∷ q
  delayed_access (LH s t imm) q r = λ j. Load 2 (place (address s [] imm r j)) (read_half m (address s [] imm r j)) ∷ q
  delayed_access (LWL s t imm) q r = λ j. Load 4 (place (round (address s (t ∷ []) imm r j))) (read_word m (round (address s (t ∷ []) imm r j))) ∷ q
  delayed_access (LW s t imm) q r = λ j. word_load (address s [] imm r j) (load_word m (address s [] imm r j) bus.value) ∷ q
  delayed_access (LBU s t imm) q r = λ j. Load 1 (place (address s [] imm r j)) (read_byte m (address s [] imm r j)) ∷ q
  delayed_access (LHU s t imm) q r = λ j. Load 2 (place (address s [] imm r j)) (read_half m (address s [] imm r j)) ∷ q
  delayed_access (LWR s t imm) q r = λ j. Load 4 (place (round (address s (t ∷ []) imm r j))) (read_word m (round (address s (t ∷ []) imm r j))) ∷ q
  delayed_access (SB s t imm) q r = λ j. Store 1 (place (address s (t ∷ []) imm r j)) (or_of s t r j % 2 ^ 8) ∷ q
  delayed_access (SH s t imm) q r = λ j. Store 2 (place (address s (t ∷ []) imm r j)) (or_of s t r j % 2 ^ 16) ∷ q
  delayed_access (SWL s t imm) q r = λ j. Store 4 (place (round (address s (t ∷ []) imm r j))) (stored_left (address s (t ∷ []) imm r j % 4) (or_of s t r j) (read_word m (round (address s (t ∷ []) imm r j)))) ∷ q
  delayed_access (SW s t imm) q r = λ j. word_store (address s (t ∷ []) imm r j) (or_of s t r j) ∷ q
  delayed_access (SWR s t imm) q r = λ j. Store 4 (place (round (address s (t ∷ []) imm r j))) (stored_right (address s (t ∷ []) imm r j % 4) (or_of s t r j) (read_word m (round (address s (t ∷ []) imm r j)))) ∷ q
  delayed_access _ q r = refl
