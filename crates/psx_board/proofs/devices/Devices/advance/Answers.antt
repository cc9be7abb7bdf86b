use Rattle.std.proofs.Common.{◌≡◌, ◌+◌, ◌-◌, ◌<◌, drop, ap, sym, arith}
use Rattle.psx_ports.specs.History.{at_count}
use Rattle.psx_board.specs.Devices.{KeptDevices}
use Rattle.psx_board.proofs.Delivering.{none-due}
use Rattle.psx_board.proofs.Lagging.{carries_on, counts_on}
use Rattle.psx_board.proofs.devices.Devices.advance.Goals as goal

pub returns-then-self-eq1-clause-carries : goal.returns-then-self-eq1-clause-carries
returns-then-self-eq1-clause-carries c h waiting carries =
    let is : c.args.self.now.count ≡ c.self.inside.next - c.self.inside.left = ap (λ (d : KeptDevices). d.count) (sym c.self.view_is) in
    c.arrive.ensures.carries (at_count h (h.now + 1)) waiting carries.ports (omega (arith, is, carries.counted, c.if-self-eq1.true, c.self.invariant.1.within)) carries.waiting

pub returns-then-self-eq1-clause-counted : goal.returns-then-self-eq1-clause-counted
returns-then-self-eq1-clause-counted c =
    let is : c.args.self.now.count ≡ c.self.inside.next - c.self.inside.left = ap (λ (d : KeptDevices). d.count) (sym c.self.view_is) in
    omega (arith, is, c.arrive.ensures.counted, c.if-self-eq1.true, c.self.invariant.1.within)

pub returns-else-self-eq1-clause-carries : goal.returns-else-self-eq1-clause-carries
returns-else-self-eq1-clause-carries c h waiting carries =
    let now = rw (← c.self.view_is) at carries in
    let next = c.self.inside.next in
    let left = c.self.inside.left in
    let is : c.args.self.now.count ≡ next - left = ap (λ (d : KeptDevices). d.count) (sym c.self.view_is) in
    let some : 1 < left = counts_on next left c.args.self.now.count is c.self.invariant.1.within c.self.invariant.1.last c.requires c.if-self-eq1.false in
    let count : next - (left - 1) ≡ h.now + 1 = omega (arith, some, now.counted, c.self.invariant.1.within) in
    let early : h.now + 1 < next = omega (arith, some, count, c.self.invariant.1.within) in
    let none = none-due (h.now + 1) next (drop c.self.inside.place c.self.inside.schedule) (c.self.invariant.1.entries some) early in
    rw (← now.waiting, none.0, none.1) (carries_on _ h _ (next - (left - 1)) (rw (← now.waiting) at now) count (omega (arith, early, count, c.self.invariant.1.deadline some)))
