-- The law of the load delay, whatever is pending.
use Rattle.std.proofs.Common.{◌≡◌, ℕ, Bool, true, false, Option, Some, None, refl, ap}
use Rattle.std.specs.Prelude.{not}
use Rattle.std.proofs.lemmas.Bool.{false≢true}
use Rattle.psx_ins.specs.declared.ins.Ins.{Ins}
use Rattle.psx_ins.specs.declared.ins.Ins.TheVariants.{SYSCALL, BREAK, RFE}
use Rattle.psx_base.specs.Memory.{Memory}
use Rattle.psx_base.specs.Registers.{Registers}
use Rattle.psx_cpu.specs.Processor.{State, Bus, Cop0}
use Rattle.psx_cpu.specs.Effect.{effect}
use Rattle.psx_flow.specs.Spaced.{registers_of, is_among, touches}
use Rattle.psx_flow.specs.Laws.{LeavesAlone, settled_state, DoesSettled}
use Rattle.psx_flow.proofs.Delay.{waiting, settled_one, delayed, delayed_trap, delayed_access, neither}

unsaid : (b : Bool) → not b ≡ true → b ≡ false
unsaid true h = absurd (false≢true h)
unsaid false h = refl

module _ (c : Registers) (n v pc next : ℕ) (slot : Bool) (z : Cop0) (m : Memory) (bus : Bus) where
  behind : (i : Ins) → is_among n (registers_of i).0 ≡ false → is_among n (registers_of i).1 ≡ false
      → settled_state (effect i (waiting c n v pc next slot z m bus) bus) ≡ settled_state (effect i (settled_one c n v pc next slot z m bus) bus)
  behind (SYSCALL code) r w = refl
  behind (BREAK code) r w = refl
  behind RFE r w = refl
  behind i r w = ap settled_state (delayed c n v pc next slot z m bus i r w refl)

  one : (i : Ins) → not (touches i n) ≡ true → DoesSettled i (waiting c n v pc next slot z m bus) bus
  one i h =
      let u = neither (is_among n (registers_of i).0) (is_among n (registers_of i).1) (unsaid (touches i n) h) in
      record {
        trap = delayed_trap c n v pc next slot z m bus i u.0;
        access = λ q. delayed_access c n v pc next slot z m bus i q u.0;
        settled = behind i u.0 u.1;
        same = λ g. delayed c n v pc next slot z m bus i u.0 u.1 g;
      }

pub settles : (i : Ins) (x : State) (bus : Bus) → LeavesAlone i x.context.pending → DoesSettled i x bus
settles i x bus h = go x.context.pending h
  where
    go : (p : Option (ℕ × ℕ)) → LeavesAlone i p → DoesSettled i (record x { context = record x.context { pending = p } }) bus
    go None h = record { trap = refl; access = λ q. refl; settled = refl; same = λ g. refl }
    go (Some l) h = one x.context.regs l.0 l.1 x.context.pc x.context.next x.context.in_slot x.cop0 x.bytes bus i h
