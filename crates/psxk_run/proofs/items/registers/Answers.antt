use Rattle.std.proofs.Common.{◌≡◌, ℕ, ◌<◌, ◌+◌, ◌≢◌, length, get_or, lit<, arith, below_more, get_or-set_other, get_or-set_same}
use Rattle.std.proofs.Common.{◌∙◌}
use Rattle.std.proofs.lemmas.List.{length-set}
use Rattle.psx_base.specs.Registers.{Registers, register}
use Rattle.psx_trace.specs.Plain.{registers_of}
use Rattle.psxk_run.proofs.items.registers.Goals as goal

-- a list of r1 to r31 stands for the registers
all : (words : _) (regs : Registers) → ((k : ℕ) → k < 31 → get_or words k 0 ≡ register regs (k + 1)) → registers_of words regs.hi regs.lo ≡ regs
all words regs h = λ i. record { r1 = h 0 (lit< tt) i; r2 = h 1 (lit< tt) i; r3 = h 2 (lit< tt) i; r4 = h 3 (lit< tt) i; r5 = h 4 (lit< tt) i; r6 = h 5 (lit< tt) i; r7 = h 6 (lit< tt) i; r8 = h 7 (lit< tt) i; r9 = h 8 (lit< tt) i; r10 = h 9 (lit< tt) i; r11 = h 10 (lit< tt) i; r12 = h 11 (lit< tt) i; r13 = h 12 (lit< tt) i; r14 = h 13 (lit< tt) i; r15 = h 14 (lit< tt) i; r16 = h 15 (lit< tt) i; r17 = h 16 (lit< tt) i; r18 = h 17 (lit< tt) i; r19 = h 18 (lit< tt) i; r20 = h 19 (lit< tt) i; r21 = h 20 (lit< tt) i; r22 = h 21 (lit< tt) i; r23 = h 22 (lit< tt) i; r24 = h 23 (lit< tt) i; r25 = h 24 (lit< tt) i; r26 = h 25 (lit< tt) i; r27 = h 26 (lit< tt) i; r28 = h 27 (lit< tt) i; r29 = h 28 (lit< tt) i; r30 = h 29 (lit< tt) i; r31 = h 30 (lit< tt) i; hi = regs.hi; lo = regs.lo }

pub returns : goal.returns
returns c = all _ _ (λ k low. c.loop-n.invariant.so_far k (omega arith))

pub loop-n-preserved : goal.loop-n-preserved
loop-n-preserved c = record {
  len = length-set {A = ℕ} c.loop-n.words c.loop-n.n c.reg.result ∙ c.loop-n.invariant.len;
  so_far = below_more _ _
      (λ k h. let ne : k ≢ c.loop-n.n = omega arith in get_or-set_other c.loop-n.words c.loop-n.n k c.reg.result 0 ne ∙ c.loop-n.invariant.so_far k h)
      (let lt : c.loop-n.n < length c.loop-n.words = omega (arith, c.loop-n.invariant.len, c.loop-n-test.true) in
      get_or-set_same c.loop-n.words c.loop-n.n c.reg.result 0 lt ∙ c.reg.ensures);
}
