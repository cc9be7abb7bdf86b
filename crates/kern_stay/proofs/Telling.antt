-- A stay is followed by the accesses to ports alone.
use Rattle.std.proofs.Common.{◌≡◌, ℕ, List, [], ◌∷◌, refl, sym, ap, subst}
use Rattle.std.specs.Prelude.{nat_eq, if◌then◌else◌}
use Rattle.psx_flow.specs.Run.{Access, Load, Store, PortRead, PortWrite}
use Rattle.psx_flow.specs.Told.{ports}
use Rattle.abs_kernel.specs.Stay.{Stay}
use Rattle.kern_stay.specs.Follows.{behind, after, IsNext, Follows, given}

pub after_ports : (stay : Stay) (q : List Access) → after stay q ≡ after stay (ports q)
after_ports stay [] = refl
after_ports stay (Load size at value ∷ q) = after_ports stay q
after_ports stay (Store size at value ∷ q) = after_ports stay q
after_ports stay (PortRead at value ∷ q) = ap (behind (PortRead at value)) (after_ports stay q)
after_ports stay (PortWrite at value ∷ q) = ap (behind (PortWrite at value)) (after_ports stay q)

pub follows_ports : (stay : Stay) (q : List Access) → Follows stay (ports q) → Follows stay q
follows_ports stay [] h = tt
follows_ports stay (Load size at value ∷ q) h = (follows_ports stay q h, tt)
follows_ports stay (Store size at value ∷ q) h = (follows_ports stay q h, tt)
follows_ports stay (PortRead at value ∷ q) h = (follows_ports stay q h.0, subst (IsNext (PortRead at value)) (sym (after_ports stay q)) h.1)
follows_ports stay (PortWrite at value ∷ q) h = (follows_ports stay q h.0, subst (IsNext (PortWrite at value)) (sym (after_ports stay q)) h.1)

pub given_ports : (at before : ℕ) (q : List Access) → given at before q ≡ given at before (ports q)
given_ports at before [] = refl
given_ports at before (Load size a value ∷ q) = given_ports at before q
given_ports at before (Store size a value ∷ q) = given_ports at before q
given_ports at before (PortRead a value ∷ q) = given_ports at before q
given_ports at before (PortWrite a value ∷ q) = ap (λ x. if nat_eq a at then value else x) (given_ports at before q)
