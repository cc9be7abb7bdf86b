-- What the proof of a call cites that takes bytes of the console, and may wait.
use Rattle.std.proofs.Common.{◌≡◌, ℕ, ◌+◌, ◌*◌, ◌%◌, ◌^◌, ◌≤◌, List, [], ◌∷◌, inl, true, false, cond, refl, sym, ap, subst, arith, eq-eqb, ne_eqb}
use Rattle.std.specs.Prelude.{nat_eq, if◌then◌else◌}
use Rattle.psx_base.specs.Addresses.{user}
use Rattle.psx_base.specs.Ports.{CONSOLE_STATUS, CONSOLE_DATA}
use Rattle.psx_base.specs.KernelState.{KernelState}
use Rattle.psx_flow.specs.Run.{Run, Access, PortRead}
use Rattle.psx_flow.specs.Told.{ports}
use Rattle.psx_flow.specs.Meets.{Goal}
use Rattle.abs_kernel.specs.Stay.{Stay, Ask, Touch}
use Rattle.abs_kernel.specs.Answered.{waits}
use Rattle.abs_kernel.specs.UserBytes.{writes_byte, bad_pointer, with_byte}
use Rattle.abs_kernel.specs.ConsoleBytes.{takes_byte}
use Rattle.kern_stay.specs.declared.places.TheConstants.{WAIT}
use Rattle.kern_stay.specs.Follows.{read_of, after, IsRead, Follows}
use Rattle.kern_stay.specs.Doors.{Holds, Ends, Through}
use Rattle.kern_stay.specs.Loops.{units, earned, Passes}

-- ---- the accesses of a stay that takes a byte

-- these accesses, newest first, are a stay's first ones and leave a rest, and they earn so many units
pub record Begins (stay : Stay) (q : List Access) (rest : Stay) (worth : ℕ) : Type 0 where
  pub follows : Follows stay q
  pub left : after stay q ≡ rest
  pub earns : earned stay q ≡ worth

abbrev pub asked : (status : ℕ) → List Access
asked status = PortRead CONSOLE_STATUS status ∷ []

abbrev pub got : (status value : ℕ) → List Access
got status value = PortRead CONSOLE_DATA value ∷ asked status

-- no byte is due
pub none_due : (without : Stay) (next : ℕ → Stay) (v : ℕ) → v ≡ 0 → Begins (takes_byte without next) (asked v) without 1
none_due without next v z = record { follows = (tt, refl); left = ap (λ b. if b then without else Ask CONSOLE_DATA (λ value. next (value % 2 ^ 8))) (eq-eqb v 0 z); earns = refl }

-- one is due, and is taken
pub one_due : (without : Stay) (next : ℕ → Stay) (v d : ℕ) → (v ≡ 0 → ⊥) → Begins (takes_byte without next) (got v d) (next (d % 2 ^ 8)) 2
one_due without next v d ne =
    let some : Stay = Ask CONSOLE_DATA (λ value. next (value % 2 ^ 8)) in
    let is : (if nat_eq v 0 then without else some) ≡ some = ap (λ b. if b then without else some) (ne_eqb v 0 ne) in
    record { follows = ((tt, refl), subst (IsRead CONSOLE_DATA) (sym is) refl); left = ap (read_of d) is; earns = ap (λ stay. 1 + units stay) is }

-- the same behind what is touched
pub none_due_behind : (bytes : ℕ) (without : Stay) (next : ℕ → Stay) (v : ℕ) → v ≡ 0 → Begins (Touch bytes (takes_byte without next)) (asked v) without (bytes + 1)
none_due_behind bytes without next v z = let b = none_due without next v z in record { follows = b.follows; left = b.left; earns = omega arith }

pub one_due_behind : (bytes : ℕ) (without : Stay) (next : ℕ → Stay) (v d : ℕ) → (v ≡ 0 → ⊥) → Begins (Touch bytes (takes_byte without next)) (got v d) (next (d % 2 ^ 8)) (bytes + 2)
one_due_behind bytes without next v d ne =
    let some : Stay = Ask CONSOLE_DATA (λ value. next (value % 2 ^ 8)) in
    let is : units (if nat_eq v 0 then without else some) ≡ 1 = ap (λ b. units (if b then without else some)) (ne_eqb v 0 ne) in
    let b = one_due without next v d ne in
    record { follows = b.follows; left = b.left; earns = omega (arith, is) }

pub begins_is : (stay now rest : Stay) (q : List Access) (worth : ℕ) → stay ≡ now → Begins now q rest worth → Begins stay q rest worth
begins_is stay now rest q worth e b = subst (λ x. Begins x q rest worth) (sym e) b

-- ---- the ends

-- the call is to be made again
pub waits_now : (state : KernelState) (most : ℕ) (e : Run) (stay : Stay) → stay ≡ waits state → state.running.context.in_slot ≡ false → Holds state e.bytes → e.steps ≤ most → Ends 0 stay most WAIT e
waits_now state most e stay is out h few = subst (λ y. Ends 0 y most WAIT e) (sym is) (few, record { state = state; out = out; is = refl; holds = h })

-- behind accesses: of a routine, and of a turn of a loop
pub through_ports : (stay rest : Stay) (x : Access) (q : List Access) (worth most to : ℕ) (e : Run) → ports e.seen ≡ x ∷ q → Begins stay (x ∷ q) rest worth → Ends 0 rest most to e
    → Through stay most to e
through_ports stay rest x q worth most to e told b h = record { told = x ∷ q; ports = told; follows = b.follows; ends = inl (subst (λ y. Ends 0 y most to e) (sym b.left) h) }

pub passed_ports : (loop : ℕ) (again : List Access → Stay → Goal) (stay rest : Stay) (q : List Access) (worth most to : ℕ) (e : Run) → nat_eq to loop ≡ false → ports e.seen ≡ q
    → Begins stay q rest worth → Ends 0 rest most to e → Passes loop again stay most to e
passed_ports loop again stay rest q worth most to e other told b h = record {
  told = q;
  ports = told;
  follows = b.follows;
  ends = subst (λ z. cond z (again q (after stay q) e) (Ends 0 (after stay q) most to e)) (sym other) (subst (λ y. Ends 0 y most to e) (sym b.left) h);
}

-- into the loop
pub turned : (loop : ℕ) (again : List Access → Stay → Goal) (stay rest : Stay) (q : List Access) (worth most : ℕ) (e : Run) → nat_eq loop loop ≡ true → ports e.seen ≡ q
    → Begins stay q rest worth → again q rest e → Passes loop again stay most loop e
turned loop again stay rest q worth most e same told b h = record {
  told = q;
  ports = told;
  follows = b.follows;
  ends = subst (λ z. cond z (again q (after stay q) e) (Ends 0 (after stay q) most loop e)) (sym same) (subst (λ y. again q y e) (sym b.left) h);
}

-- ---- what is left of a stay that accesses no more ports: what it touches isn't paid for

pub record Behind (stay rest : Stay) (most : ℕ) : Type 0 where
  pub enough : (to : ℕ) (e : Run) → Ends 0 rest most to e → Ends 0 stay most to e

pub behind_all : {most : ℕ} (stay : Stay) → Behind stay stay most
behind_all stay = record { enough = λ to e h. h }

pub behind_is : {most : ℕ} (stay rest now : Stay) → rest ≡ now → Behind stay rest most → Behind stay now most
behind_is {most} stay rest now e l = subst (λ x. Behind stay x most) e l

behind_touch : {most : ℕ} (stay rest next : Stay) (bytes : ℕ) → rest ≡ Touch bytes next → Behind stay rest most → Behind stay next most
behind_touch {most} stay rest next bytes is l =
    let z : most ≡ most + 0 * bytes = omega arith in
    record { enough = λ to e h. l.enough to e (subst (λ y. Ends 0 y most to e) (sym is) (subst (λ j. Ends 0 next j to e) z h)) }

-- a byte that is user memory is written, and another is refused
pub behind_written : {most : ℕ} (stay : Stay) (s : KernelState) (at value : ℕ) (next : KernelState → Stay) → user at ≡ true → Behind stay (writes_byte s at value next) most
    → Behind stay (next (with_byte s at value)) most
behind_written stay s at value next u l = behind_touch stay _ _ 1 (ap (λ b. Touch 1 (if b then next (with_byte s at value) else bad_pointer s at)) u) l

pub behind_unwritten : {most : ℕ} (stay : Stay) (s : KernelState) (at value : ℕ) (next : KernelState → Stay) → user at ≡ false → Behind stay (writes_byte s at value next) most
    → Behind stay (bad_pointer s at) most
behind_unwritten stay s at value next u l = behind_touch stay _ _ 1 (ap (λ b. Touch 1 (if b then next (with_byte s at value) else bad_pointer s at)) u) l
