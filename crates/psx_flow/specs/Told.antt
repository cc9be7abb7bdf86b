-- The ports among the accesses of a run, and what the processor's steps tell of them.
use Rattle.std.specs.Prelude.{◌≡◌, List, [], ◌∷◌, Some}
use Rattle.psx_cpu.specs.Processor.{Core, Bus}
use Rattle.psx_cpu.specs.Step.{Move, Reads, Writes, step}
use Rattle.psx_flow.specs.Run.{Access, PortRead, PortWrite}
use Rattle.psx_flow.specs.Plain.{went, seen_at}

-- the accesses to ports
abbrev pub ports : List Access → List Access
ports [] = []
ports (PortRead at value ∷ q) = PortRead at value ∷ ports q
ports (PortWrite at value ∷ q) = PortWrite at value ∷ ports q
ports (_ ∷ q) = ports q

-- with that which a step tells
abbrev pub told : Move → List Access → List Access
told (Reads next at value) q = PortRead at value ∷ q
told (Writes next at value) q = PortWrite at value ∷ q
told _ q = q

-- The accesses to ports are those that the steps tell.
abbrev pub PortsAreTold : Type 0
PortsAreTold = (k : Core) (bus : Bus) (next : Core) (q : List Access) → went (step k bus) ≡ Some next → ports (seen_at k bus q) ≡ told (step k bus) (ports q)
