-- What a store of strtok's place makes of the state that a memory stands for.
use Rattle.psx_flow.proofs.Kit.{ℕ, refl, arith, Memory, put_word}
use Rattle.psx_base.specs.KernelState.{KernelState}
use Rattle.kern_layout.specs.Valid.{Valid}
use Rattle.abs_kernel.specs.Strtok.{with_place}
use Rattle.abs_kernel.proofs.Moved.{valid_placed}
use Rattle.kern_stay.specs.Doors.{Holds}
use Rattle.kern_stay.proofs.Holding.{holds_variable}

pub holds_place : (s : KernelState) → Valid s → (m : Memory) → Holds s m → (v : ℕ) → Holds (with_place s v) (put_word m 0xEA18 v)
holds_place s valid m h v = holds_variable s valid m h 0x18 v s.next s.random v s.errno s.heap.base (valid_placed s s.memory s.random v s.running valid valid.running) refl (omega arith) refl
