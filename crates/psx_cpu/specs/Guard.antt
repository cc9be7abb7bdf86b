-- The guard: what is looked at before an instruction is executed, in this order. On the kernel's side only alignment and the word itself are.
use Rattle.std.specs.Prelude.{ℕ, ◌%◌, Bool, true, false, not, ◌&&◌, ◌||◌, nat_eq, is_some, Option, Some, None, if◌then◌else◌}
use Rattle.psx_ins.specs.declared.ins.Ins.{Ins}
use Rattle.psx_ins.specs.declared.ins.Ins.TheVariants.{JR, JALR, BLTZ, BGEZ, BLTZAL, BGEZAL, J, JAL, BEQ, BNE, BLEZ, BGTZ, MFC0, MTC0, RFE}
use Rattle.psx_ins.specs.Decoding.{instruction_of}
use Rattle.psx_base.specs.declared.stop.Stop.{Stop}
use Rattle.psx_base.specs.declared.stop.Stop.TheVariants.{UserFetch, UserData, Protected, SlotBranch}
use Rattle.psx_base.specs.Addresses.{user, gate_of}
use Rattle.psx_base.specs.Context.{Context}
use Rattle.psx_cpu.specs.Processor.{Trap}
use Rattle.psx_cpu.specs.Traps.{DataUse, data_use, is_aligned, misaligned, reserved_code}

-- a branch or jump
abbrev pub is_branch : Ins → Bool
is_branch (JR s) = true
is_branch (JALR s d) = true
is_branch (BLTZ s imm) = true
is_branch (BGEZ s imm) = true
is_branch (BLTZAL s imm) = true
is_branch (BGEZAL s imm) = true
is_branch (J target) = true
is_branch (JAL target) = true
is_branch (BEQ s t imm) = true
is_branch (BNE s t imm) = true
is_branch (BLEZ s imm) = true
is_branch (BGTZ s imm) = true
is_branch _ = false

-- an instruction of coprocessor 0
abbrev pub is_protected : Ins → Bool
is_protected (MFC0 t d) = true
is_protected (MTC0 t d) = true
is_protected RFE = true
is_protected _ = false

-- The guard stops the run, puts an exception in the instruction's place, or passes the instruction on.
module _ {R : Type 0} (stops : Stop → R) (traps : Trap → R) (passes : Ins → R) where
  -- the data address is aligned, and user memory
  abbrev pub guard_data : Context → Bool → Ins → Option DataUse → R
  guard_data c latch i None = passes i
  guard_data c latch i (Some u) =
      if is_aligned u.at u.multiple then (if latch || user u.at then passes i else stops (UserData c.pc u.at)) else traps (misaligned u)

  -- no branch in a delay slot, none of coprocessor 0
  abbrev pub guard_instruction : Context → Bool → Ins → R
  guard_instruction c latch i =
      if is_branch i && (c.in_slot && not latch) then stops (SlotBranch c.pc)
      else (if is_protected i && not latch then stops (Protected c.pc) else guard_data c latch i (data_use i c))

  -- the word is an instruction
  abbrev pub guard_word : Context → Bool → ℕ → Option Ins → R
  guard_word c latch w None = traps (record { code = reserved_code w; bad = None })
  guard_word c latch w (Some i) = guard_instruction c latch i

  -- pc is aligned, and user memory or a gate; w is the word there
  abbrev pub guard : Context → Bool → ℕ → R
  guard c latch w =
      if nat_eq (c.pc % 4) 0 then (if latch || (user c.pc || is_some (gate_of c.pc)) then guard_word c latch w (instruction_of w) else stops (UserFetch c.pc))
      else traps (record { code = 4; bad = Some c.pc })
