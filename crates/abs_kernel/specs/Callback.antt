-- The call of a user's function by the kernel, as an event's or an element's (PSX-SPX, Kernel (BIOS), Event Functions and Interrupt/Exception Handling).
use Rattle.std.specs.Prelude.{ℕ, ◌+◌, ◌-◌, ◌%◌, ◌^◌, false, List, [], ◌∷◌, ◌++◌, length, None, nat_lt, if◌then◌else◌}
use Rattle.psx_base.specs.declared.stop.Stop.TheVariants.{Deep}
use Rattle.psx_base.specs.Registers.{no_registers}
use Rattle.psx_base.specs.Context.{Context}
use Rattle.psx_base.specs.KernelState.{ThreadContext, Task, Frame, KernelState}
use Rattle.kern_layout.specs.declared.places.TheConstants.{FRAME_BLOCKS}
use Rattle.abs_kernel.specs.Stay.{Stay, Return, Halt}

-- the function's stack: 32 bytes below the context's, at a multiple of 8
abbrev pub stack_below : (sp : ℕ) → ℕ
stack_below sp = let at = (sp + (2 ^ 32 - 32)) % 2 ^ 32 in at - at % 8

-- the gate to which it returns
abbrev pub RETURN : ℕ
RETURN = 0xE0

-- The function begins with its argument in r4, its address in k0, that gate in r31, gp of the context and the stack below the context's. Interrupts are off, and all else is 0, with HI and LO.
abbrev pub callback : Context → (function argument : ℕ) → ThreadContext
callback c function argument = record {
  context = record {
    regs = record no_registers { r4 = argument; r26 = function; r28 = c.regs.r28; r29 = stack_below c.regs.r29; r31 = RETURN };
    pending = None;
    pc = function;
    next = (function + 4) % 2 ^ 32;
    in_slot = false;
  };
  interrupts = false;
}

-- a frame is put upon those that are there
abbrev pub pushed : KernelState → Frame → KernelState
pushed s f = record s { frames = s.frames ++ (f ∷ []) }

-- A frame keeps the context that is to be taken up and the tasks that are left, and the function begins. With 8 frames there the run stops.
abbrev pub calls_back : KernelState → ThreadContext → List Task → (function argument ra : ℕ) → Stay
calls_back s c left function argument ra =
    if nat_lt (length s.frames) FRAME_BLOCKS
    then Return (record (pushed s (record { context = c; tasks = left })) { running = callback c.context function argument })
    else Halt (Deep ra) s.memory
