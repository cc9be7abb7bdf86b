-- The first steps of a run, and the run.
use Rattle.std.proofs.Common.{◌≡◌, ℕ, zero, suc, ◌+◌, List, [], ◌∷◌, ◌++◌, Option, Some, None, refl, sym, ap, subst, ◌∙◌, append-nil, append_assoc, arith}
use Rattle.psx_base.specs.declared.stop.Stop.{Stop}
use Rattle.psx_base.specs.declared.stop.Stop.TheVariants.{Budget}
use Rattle.psx_base.specs.Items.{Item, S}
use Rattle.psx_cpu.specs.declared.step.Did.{Did}
use Rattle.psx_board.specs.Machine.{Machine}
use Rattle.psx_board.specs.Turn.{Turn, On, Final, turn}
use Rattle.psx_board.specs.Delivery.{line}
use Rattle.psx_board.specs.Run.{Outcome, run, ended, behind, then_run}
use Rattle.psx_board.specs.SoFar.{SoFar, extended, one_more, so_far, StandsAfter, closed_run}
use Rattle.psx_board.specs.Stands.{View, Stands, Turned, TurnedBy}

so_far-suc : (n : ℕ) (m : Machine) (s : SoFar) → so_far n m ≡ s → s.stop ≡ None → so_far (suc n) m ≡ extended s (turn s.last)
unfolding so_far
so_far-suc n m s is going = ap (λ (x : SoFar). one_more x x.stop) is ∙ ap (one_more s) going

so_far-more : (n : ℕ) (m : Machine) (s : SoFar) → so_far n m ≡ s → s.stop ≡ None → so_far (n + 1) m ≡ extended s (turn s.last)
so_far-more n m s is going = ap (λ (k : ℕ). so_far k m) (omega arith) ∙ so_far-suc n m s is going

-- a turn that a board made
made : (n : ℕ) (m : Machine) (t : Turn) (did : Did) (new : View) (s : SoFar) → TurnedBy s.last.began (line s.last) s.last.history.now t did new
    → Stands new (extended s t).last × (new.stopped ≡ (extended s t).stop)
made n m (On next items tty) did new s t = (t.stands, t.stopped)
made n m (Final last stop) did new s t = (t.stands, t.stopped)

-- a board that stood for the first calls of a step stands for one more
pub one_more_step : (n : ℕ) (m : Machine) (old new : View) (did : Did) → StandsAfter old n m → old.stopped ≡ None → ((x : Machine) → Stands old x → Turned x (turn x) did new) → StandsAfter new (n + 1) m
one_more_step n m old new did a going turned =
    let s = so_far n m in
    let is = so_far-more n m s refl (sym a.stopped ∙ going) in
    let now = made n m (turn s.last) did new s (turned s.last a.stands) in
    record { stands = subst (λ (x : SoFar). Stands new x.last) (sym is) now.0; stopped = now.1 ∙ ap (λ (x : SoFar). x.stop) (sym is) }

-- ---- the first steps of a run, and the run

-- so many steps more
more : ℕ → SoFar → SoFar
more zero s = s
more (suc n) s = more n (one_more s s.stop)

more-after : (n : ℕ) (s : SoFar) → more n (one_more s s.stop) ≡ one_more (more n s) (more n s).stop
unfolding more
more-after zero s = refl
more-after (suc n) s = more-after n (one_more s s.stop)

none : Machine → SoFar
none m = record { items = []; tty = []; last = m; stop = None }

so_far-is : (n : ℕ) (m : Machine) → so_far n m ≡ more n (none m)
unfolding so_far more none
so_far-is zero m = refl
so_far-is (suc n) m = ap (λ (s : SoFar). one_more s s.stop) (so_far-is n m) ∙ sym (more-after n (none m))

more-stopped : (n : ℕ) (s : SoFar) (stop : Stop) → s.stop ≡ Some stop → more n s ≡ s
unfolding more
more-stopped zero s stop is = refl
more-stopped (suc n) s stop is = ap (λ (o : Option Stop). more n (one_more s o)) is ∙ more-stopped n s stop is

more-turn : (n : ℕ) (s : SoFar) → s.stop ≡ None → more (suc n) s ≡ more n (extended s (turn s.last))
unfolding more
more-turn n s going = ap (λ (o : Option Stop). more n (one_more s o)) going

behind-twice : (xs ys : List Item) (bs cs : List ℕ) (o : Outcome) → behind (xs ++ ys) (bs ++ cs) o ≡ behind xs bs (behind ys cs o)
behind-twice xs ys bs cs o = (λ i. record { items = append_assoc xs ys o.items i; tty = append_assoc bs cs o.tty i; stop = o.stop; last = o.last })

behind-ended : (xs : List Item) (bs : List ℕ) (m : Machine) (stop : Stop) → record { items = xs ++ S m.history.now stop ∷ []; tty = bs; stop = stop; last = m } ≡ behind xs bs (ended m stop)
behind-ended xs bs m stop = (λ i. record { items = xs ++ S m.history.now stop ∷ []; tty = sym (append-nil bs) i; stop = stop; last = m })

run-suc : (n : ℕ) (m : Machine) → run (suc n) m ≡ then_run (turn m) (run n)
unfolding run
run-suc n m = refl

run-zero : (m : Machine) → run zero m ≡ ended m Budget
unfolding run
run-zero m = refl

closed-going : (s : SoFar) → s.stop ≡ None → closed_run s ≡ closed_run (record s { stop = None })
closed-going s going = ap (λ (o : Option Stop). closed_run (record s { stop = o })) going

closes-turn : (n : ℕ) (s : SoFar) (t : Turn) → ((x : SoFar) → x.stop ≡ None → closed_run (more n x) ≡ behind x.items x.tty (run n x.last))
    → closed_run (more n (extended s t)) ≡ behind s.items s.tty (then_run t (run n))
closes-turn n s (On next items tty) rest = rest (extended s (On next items tty)) refl ∙ behind-twice s.items items s.tty tty (run n next)
closes-turn n s (Final last stop) rest = ap closed_run (more-stopped n (extended s (Final last stop)) stop refl) ∙ behind-ended s.items s.tty last stop

closes : (n : ℕ) (s : SoFar) → s.stop ≡ None → closed_run (more n s) ≡ behind s.items s.tty (run n s.last)
unfolding more
closes zero s going = closed-going s going ∙ behind-ended s.items s.tty s.last Budget ∙ ap (behind s.items s.tty) (sym (run-zero s.last))
closes (suc n) s going = ap closed_run (more-turn n s going) ∙ closes-turn n s (turn s.last) (closes n) ∙ ap (behind s.items s.tty) (sym (run-suc n s.last))

-- a run is its first steps, closed
pub run_so_far : (n : ℕ) (m : Machine) → run n m ≡ closed_run (so_far n m)
unfolding none
run_so_far n m = sym (ap closed_run (so_far-is n m) ∙ closes n (none m) refl)
