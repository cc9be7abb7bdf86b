-- What the proof of a stage cites, and how stages are joined.
use Rattle.std.proofs.Common.{◌≡◌, ℕ, zero, suc, ◌+◌, ◌*◌, ◌%◌, ◌^◌, ◌<◌, ◌≤◌, ◌++◌, inl, inr, ⊎_elim, List, [], ◌∷◌, Bool, true, false, cond, refl, sym, ap, ◌∙◌, subst, arith}
use Rattle.std.specs.Prelude.{nat_eq, ◌||◌}
use Rattle.std.proofs.lemmas.Bool.{false≢true, eqb-true}
use Rattle.psx_base.specs.Ports.{CONSOLE_DATA}
use Rattle.psx_flow.specs.Tree.{Tree}
use Rattle.psx_flow.specs.Run.{Run, Access, PortWrite}
use Rattle.psx_flow.specs.Told.{ports}
use Rattle.psx_flow.specs.Kernel.{kernel_words}
use Rattle.psx_flow.specs.Meets.{Goal, Calls, Meets, calls}
use Rattle.psx_flow.proofs.Rules.{fair, meets_mono}
use Rattle.abs_kernel.specs.Stay.{Stay, Write}
use Rattle.kern_stay.specs.Follows.{written_of, IsWritten, IsNext}
use Rattle.kern_stay.specs.Shared.{tested_there}
use Rattle.kern_stay.specs.Doors.{Ends, begun}
use Rattle.kern_stay.specs.Loops.{units}
use Rattle.kern_stay.specs.Stages.{Asked, touching, in_all, Leads, RunsAt, Stages, Interface, Less, IsStage}

-- ---- the ends of a stage

-- a door, where no port was accessed
pub to_door : (asked : Asked) (bank : ℕ) (stay : Stay) (to : ℕ) (e : Run) → ports e.seen ≡ [] → Ends 0 stay bank to e → Leads asked bank stay to e
to_door asked bank stay to e quiet h = record { told = []; ports = quiet; follows = tt; ends = inl h }

-- a listing, where no port was accessed, behind touches
pub to_stage : (asked : Asked) (bank : ℕ) (stay : Stay) (touched : List ℕ) (rest : Stay) (left to : ℕ) (e : Run) → ports e.seen ≡ [] → stay ≡ touching touched rest
    → e.steps ≤ bank → left + e.steps ≤ bank + 128 * in_all touched → asked to left rest e → Leads asked bank stay to e
to_stage asked bank stay touched rest left to e quiet is few pays h =
    record { told = []; ports = quiet; follows = tt; ends = inr (record { touched = touched; rest = rest; left = left; is = is; few = few; pays = omega (arith, pays); holds = h }) }

written_touching : (ns : List ℕ) (b : ℕ) (rest : Stay) → written_of (touching ns (Write b rest)) ≡ rest
written_touching [] b rest = refl
written_touching (n ∷ ns) b rest = written_touching ns b rest

units_touching : (ns : List ℕ) (b : ℕ) (rest : Stay) → units (touching ns (Write b rest)) ≡ in_all ns + 1
units_touching [] b rest = refl
units_touching (n ∷ ns) b rest = let e = units_touching ns b rest in omega (arith, e)

next_touching : (ns : List ℕ) (b v : ℕ) (rest : Stay) → v % 2 ^ 8 ≡ b → IsWritten CONSOLE_DATA v (touching ns (Write b rest))
next_touching [] b v rest low = (refl, low)
next_touching (n ∷ ns) b v rest low = next_touching ns b v rest low

-- a listing, where a byte was written to the console, behind touches
pub printed_to : (asked : Asked) (bank : ℕ) (stay : Stay) (touched : List ℕ) (b v : ℕ) (rest : Stay) (left to : ℕ) (e : Run) → ports e.seen ≡ PortWrite CONSOLE_DATA v ∷ [] → v % 2 ^ 8 ≡ b
    → stay ≡ touching touched (Write b rest) → e.steps ≤ bank → left + e.steps ≤ bank + 128 * (in_all touched + 1) → asked to left rest e → Leads asked bank stay to e
printed_to asked bank stay touched b v rest left to e told low is few pays h =
    let q : List Access = PortWrite CONSOLE_DATA v ∷ [] in
    let earns : units stay ≡ in_all touched + 1 = ap units is ∙ units_touching touched b rest in
    record {
      told = q;
      ports = told;
      follows = (tt, subst (IsNext (PortWrite CONSOLE_DATA v)) (sym is) (next_touching touched b v rest low));
      ends = inr (record { touched = []; rest = rest; left = left; is = ap written_of is ∙ written_touching touched b rest; few = few; pays = omega (arith, pays, earns); holds = h });
    }

-- ---- joining them

leads_map : (A B : Asked) → ((at bank : ℕ) (stay : Stay) (e : Run) → A at bank stay e → B at bank stay e) → (bank : ℕ) (stay : Stay) (to : ℕ) (e : Run) → Leads A bank stay to e → Leads B bank stay to e
leads_map A B f bank stay to e h = record {
  told = h.told;
  ports = h.ports;
  follows = h.follows;
  ends = ⊎_elim (λ d. inl d) (λ g. inr (record { touched = g.touched; rest = g.rest; left = g.left; is = g.is; few = g.few; pays = g.pays; holds = f to g.left g.rest e g.holds })) h.ends;
}

cond_map : (v : Bool) {A B X Y : Type 0} → (A → X) → (B → Y) → cond v A B → cond v X Y
cond_map true f g h = f h
cond_map false f g h = g h

runs_map : (own parts : List (ℕ × Tree)) (at : ℕ) (G H : ℕ → Goal) → ((to : ℕ) (f : Run) → G to f → H to f) → (e : Run) → RunsAt own parts at G e → RunsAt own parts at H e
runs_map own [] at G H f e h = absurd h
runs_map own (l ∷ ls) at G H f e h =
    let C : Calls = calls kernel_words (own ++ tested_there) in
    cond_map (nat_eq at l.0) (λ x. meets_mono kernel_words C (fair kernel_words (own ++ tested_there)) l.1 l.0 (λ _. ⊥) (λ _. ⊥) G H (begun e.regs e.cop0 e.bytes) (λ m z. z) f x) (λ y. runs_map own ls at G H f e y) h

-- from where an interface holds the stay is made, if from each of its states a stage leads on with less to do
pub by_interface : (own parts : List (ℕ × Tree)) (I : Interface)
    → ((todo at bank : ℕ) (stay : Stay) (e : Run) → I todo at bank stay e → RunsAt own parts at (λ to f. Leads (Less I todo) bank stay to f) e)
    → (n todo at bank : ℕ) (stay : Stay) (e : Run) → todo < n → I todo at bank stay e → Stages own parts n at bank stay e
by_interface own parts I stage zero todo at bank stay e lt h = absurd (omega arith)
by_interface own parts I stage (suc n) todo at bank stay e lt h =
    runs_map own parts at (λ to f. Leads (Less I todo) bank stay to f) (λ to f. Leads (Stages own parts n) bank stay to f)
    (λ to f x. leads_map (Less I todo) (Stages own parts n) (λ a b s g y. let low = y.1 in by_interface own parts I stage n y.0 a b s g (omega (arith, low, lt)) y.2) bank stay to f x) e (stage todo at bank stay e h)

-- ---- all listings are stages

abbrev pub AllStages : (own : List (ℕ × Tree)) → Interface → List (ℕ × Tree) → Type 0
AllStages own I [] = Unit {0}
AllStages own I (l ∷ ls) = IsStage own I l.0 l.1 × AllStages own I ls

-- this is the address of one of them
abbrev pub named : (at : ℕ) → List (ℕ × Tree) → Bool
named at [] = false
named at (l ∷ ls) = nat_eq at l.0 || named at ls

pub staged : (own : List (ℕ × Tree)) (I : Interface) (todo at bank : ℕ) (stay : Stay) (e : Run) → I todo at bank stay e → (ls : List (ℕ × Tree)) → AllStages own I ls → named at ls ≡ true → RunsAt own ls at (λ to f. Leads (Less I todo) bank stay to f) e
staged own I todo at bank stay e h [] all n = absurd (false≢true n)
staged own I todo at bank stay e h (l ∷ ls) all n = go (nat_eq at l.0) refl n (staged own I todo at bank stay e h ls all.1)
  where
    C : Calls
    C = calls kernel_words (own ++ tested_there)

    G : ℕ → Goal
    G to f = Leads (Less I todo) bank stay to f

    go : (b : Bool) → nat_eq at l.0 ≡ b → (b || named at ls) ≡ true → (named at ls ≡ true → RunsAt own ls at G e) → cond b (Meets kernel_words C l.1 l.0 (λ _. ⊥) G (begun e.regs e.cop0 e.bytes)) (RunsAt own ls at G e)
    go true same n later = all.0 todo bank stay e (subst (λ a. I todo a bank stay e) (eqb-true at l.0 same) h)
    go false other n later = later n

-- an interface that is a choice by addresses names no other
pub named_behind : (X Y : Type 0) (b n : Bool) → cond b X Y → (Y → n ≡ true) → (b || n) ≡ true
named_behind X Y true n h f = refl
named_behind X Y false n h f = f h
