-- Where a contract holds whatever the bus brings and the memory holds, it is taken at this step's.
use Rattle.psx_cpu.proofs.cpu.Cpu.perform.Goals as goal

pub returns-in-ADD : goal.returns-in-ADD
returns-in-ADD c = rw c.in-ADD.is (c.add.ensures c.args.ram.now c.args.bus)

pub returns-in-SUB : goal.returns-in-SUB
returns-in-SUB c = rw c.in-SUB.is (c.subtract.ensures c.args.ram.now c.args.bus)

pub returns-in-ADDI : goal.returns-in-ADDI
returns-in-ADDI c = rw c.in-ADDI.is (c.add_immediate.ensures c.args.ram.now c.args.bus)

pub returns-in-MTC0 : goal.returns-in-MTC0
returns-in-MTC0 c = rw c.in-MTC0.is (c.move_to_cop0.ensures c.args.ram.now c.args.bus)
