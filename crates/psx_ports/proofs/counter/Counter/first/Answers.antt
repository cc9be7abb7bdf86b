use Rattle.std.proofs.Common.{◌+◌, ◌*◌, ◌/◌, ◌%◌, ◌^◌, refl, sym, arith}
use Rattle.psx_ports.specs.Counter.{clock}
use Rattle.psx_ports.proofs.Reckoning.{clock-positive}
use Rattle.psx_ports.proofs.Looking.{never-open, first-open, first-found, first-past, first-far, one-shifted}
use Rattle.psx_ports.proofs.counter.Counter.first.Goals as goal

pub returns-in-None-clause-none : goal.returns-in-None-clause-none
returns-in-None-clause-none c = λ n later below.
    never-open c.args.self.now _ c.self.view_is (clock c.args.self.now.number c.args.self.now.setting.mode) c.limit.result (omega arith) (omega arith) refl c.limit.ensures
    c.args.x n c.in-None.ensures.none later

pub returns-in-Some-checked_add-clause-some : goal.returns-in-Some-checked_add-clause-some
returns-in-Some-checked_add-clause-some c =
    let k = c.args.self.now in
    let steps = 1 * 2 ^ c.shift-shift.result % 2 ^ 64 in
    first-found k.number k.setting c.args.x c.in-Some-checked_add.turn steps c.checked_mul.result
    (first-open k _ c.self.view_is (2 ^ c.shift-shift.result) c.limit.result (omega arith) (omega arith) c.shift-shift.ensures.clock c.limit.ensures
    c.args.x c.in-Some.turns c.in-Some-checked_add.turn steps c.in-Some.ensures.some c.in-Some-checked_add.ensures.1 (one-shifted k.number k.setting.mode (2 ^ c.shift-shift.result) c.shift-shift.ensures.clock))
    c.checked_mul.ensures

pub returns-in-Some-checked_add-clause-none : goal.returns-in-Some-checked_add-clause-none
returns-in-Some-checked_add-clause-none c =
    let k = c.args.self.now in
    let steps = 1 * 2 ^ c.shift-shift.result % 2 ^ 64 in
    first-past k.number k.setting c.args.x c.in-Some-checked_add.turn steps c.checked_mul.result
    (first-open k _ c.self.view_is (2 ^ c.shift-shift.result) c.limit.result (omega arith) (omega arith) c.shift-shift.ensures.clock c.limit.ensures
    c.args.x c.in-Some.turns c.in-Some-checked_add.turn steps c.in-Some.ensures.some c.in-Some-checked_add.ensures.1 (one-shifted k.number k.setting.mode (2 ^ c.shift-shift.result) c.shift-shift.ensures.clock))
    c.checked_mul.ensures

pub returns-in-None-checked_add-clause-none : goal.returns-in-None-checked_add-clause-none
returns-in-None-checked_add-clause-none c =
    let k = c.args.self.now in
    let steps = clock k.number k.setting.mode in
    let q = c.self.inside.since / 2 ^ c.shift-shift.result + c.in-Some.turns in
    λ n later below. first-far k.number k.setting c.args.x q steps n
    (first-open k _ c.self.view_is (2 ^ c.shift-shift.result) c.limit.result (omega arith) (omega arith) c.shift-shift.ensures.clock c.limit.ensures
    c.args.x c.in-Some.turns q steps c.in-Some.ensures.some refl (sym c.shift-shift.ensures.clock))
    (clock-positive k.number k.setting.mode) (omega (arith, c.in-None-checked_add.ensures)) later below
