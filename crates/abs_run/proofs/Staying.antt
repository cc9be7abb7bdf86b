-- From a stay that is served to the board's run behind it, by induction on the budget.
use Rattle.std.proofs.Common.{◌≡◌, ℕ, zero, suc, ◌+◌, ◌*◌, ◌<◌, ◌≤◌, true, Option, Some, None, List, [], ◌∷◌, ◌++◌, refl, sym, ap, subst, ◌∙◌, inl, inr, append-nil, append_assoc, arith}
use Rattle.psx_base.specs.Ports.{CONSOLE_DATA}
use Rattle.psx_base.specs.declared.stop.Stop.{Stop}
use Rattle.psx_base.specs.Memory.{Memory}
use Rattle.psx_base.specs.Context.{Context}
use Rattle.psx_base.specs.Items.{Entrance, Item}
use Rattle.psx_base.specs.KernelState.{KernelState}
use Rattle.psx_cpu.specs.Processor.{Core}
use Rattle.psx_cpu.specs.Step.{step}
use Rattle.psx_ports.specs.History.{History, Read, Write, then_event}
use Rattle.psx_board.specs.Machine.{Machine}
use Rattle.psx_board.specs.Delivery.{delivered}
use Rattle.psx_board.specs.Turn.{Turn, bus_of, stepped}
use Rattle.psx_board.specs.Run.{Outcome, run, then_run}
use Rattle.kern_layout.specs.Valid.{Valid}
use Rattle.kern_layout.specs.Stands.{Stands, SameUser}
use Rattle.abs_kernel.specs.Stay.{Stay, Return, Halt, Ask, Tell, Write as Put, Touch}
use Rattle.abs_kernel.specs.KernelStep.{stay_of}
use Rattle.abs_kernel.specs.Played.{Access, Asked, Told, Written, Returned, Halted, ports_of, bytes_of}
use Rattle.abs_kernel.specs.StayLaws.{EachReturn}
use Rattle.abs_run.specs.InWords.{CoreFits, MoveFits}
use Rattle.abs_run.specs.InKernel.{InKernel, in_kernel, side_of, Sign, Nothing, PortRead, PortWritten, Printed, LeftKernel, EndedRun, sign_of}
use Rattle.abs_run.specs.Serves.{Onward, Comes, AsksFor, WritesTo, Prints, Returns, HaltsWith, Runs, FinishesOn, Finishes, ServesRom}
use Rattle.abs_run.specs.InTime.{NotLater, InTime}
use Rattle.abs_run.specs.KernelRun.{Place, User, Kernel, Does, RunsFrom}
use Rattle.abs_run.specs.Invariant.{Passes, ReturnsTo, IsInvariant, EachEntry}
use Rattle.abs_run.proofs.StepWords.{steps_keep_words}
use Rattle.abs_run.proofs.Delivered.{passes-then, MachineFits, delivers, delivered-fits, bus-small, in_kernel-arrived}
use Rattle.abs_run.proofs.Counts.{run-zero, run-suc}
use Rattle.abs_run.proofs.Behind.{Behind, ports-append, bytes-append, behind-asked, behind-told, behind-written, does, is_within}
use Rattle.abs_run.proofs.Signed.{After, Signed, signed}

module _ (covers : KernelState → ℕ → Type 0) (keeps : KernelState → History → Type 0) (shows : Entrance → ℕ → Type 0) (rom : List ℕ) (serves : ServesRom covers rom) (inv : IsInvariant covers keeps shows) where
  -- a run is the kernel machine's from a place on, behind these console bytes, and its interrupts return in time
  abbrev pub Holds : Place → (latest : Option ℕ) → List ℕ → Outcome → Type 0
  Holds place latest bytes o = EachEntry shows o.items → RunsFrom o.items place (bytes ++ o.tty) o.last.core.bytes × InTime latest o.items

  -- the board at a user moment
  pub record AtUser (s : KernelState) (m : Machine) : Type 0 where
    pub stands : Stands (side_of m.core) m.core.bytes s rom
    pub valid : Valid s
    pub invariant : keeps s m.history
    pub began : m.began ≡ true
    pub fits : MachineFits m
    pub words : CoreFits m.core

  -- each run from a user moment within fewer steps is the kernel machine's
  abbrev pub Main : ℕ → Type 0
  Main n = (j : ℕ) (m : Machine) (s : KernelState) → j < n → AtUser s m → Holds (User s m.history.now) None [] (run j m)

  -- ---- stays

  -- the words return in time, where the stay has a latest count
  abbrev pub Timely : Option ℕ → Machine → Type 0
  Timely None m = Unit {0}
  Timely (Some latest) m = (left : ℕ) × Finishes left (in_kernel m.core m.history) × (m.history.now + left ≤ latest)

  -- the board in a stay, behind these accesses
  pub record InStay (s : KernelState) (code : ℕ) (latest : Option ℕ) (made : List Access) (rest : Stay) (m : Machine) : Type 0 where
    pub behind : Behind (stay_of s code) made rest
    pub valid : EachReturn Valid rest
    pub since : History
    pub returns : ReturnsTo keeps rest since
    pub passes : Passes since m.history
    pub began : m.began ≡ true
    pub fits : MachineFits m
    pub words : CoreFits m.core
    pub timely : Timely latest m

  abbrev pub StayRest : KernelState → ℕ → Option ℕ → ℕ → Type 0
  StayRest s code latest n = (made : List Access) (rest : Stay) (bound : ℕ) (m : Machine) → InStay s code latest made rest m → Runs rom rest bound (in_kernel m.core m.history) → Holds (Kernel s code (ports_of made)) latest (bytes_of made) (run n m)

  change : (items : List Item) (s : KernelState) (code : ℕ) (latest : Option ℕ) (a b : List Access) (x y : List ℕ) (ram : Memory) → a ≡ b → x ≡ y
      → RunsFrom items (Kernel s code a) x ram × InTime latest items → RunsFrom items (Kernel s code b) y ram × InTime latest items
  change items s code latest a b x y ram e f h = (subst (λ (v : List Access). RunsFrom items (Kernel s code v) y ram) e (subst (λ (v : List ℕ). RunsFrom items (Kernel s code a) v ram) f h.0), h.1)

  module _ (s : KernelState) (code n : ℕ) (latest : Option ℕ) (main : Main (suc n)) (again : StayRest s code latest n) (made : List Access) (m : Machine) where
    abbrev d : Machine
    d = delivered m

    abbrev Goal : Turn → Type 0
    Goal t = Holds (Kernel s code (ports_of made)) latest (bytes_of made) (then_run t (run n))

    -- as much is left behind a step
    abbrev TimelyOn : Option ℕ → Sign → Type 0
    TimelyOn None sign = Unit {0}
    TimelyOn (Some most) sign = (left : ℕ) × FinishesOn (Finishes left) sign × (d.history.now + 1 + left ≤ most)

    timely_next : (o : Option ℕ) (sign : Sign) (k : InKernel) → ((left : ℕ) → FinishesOn (Finishes left) sign → Finishes left k) → (h : History) (next : Machine) → in_kernel next.core next.history ≡ k → After d h next → TimelyOn o sign → Timely o next
    timely_next None sign k f h next at after w = tt
    timely_next (Some most) sign k f h next at after w = let counted = after.counted in let room = w.2 in (w.0, subst (Finishes w.0) (sym at) (f w.0 w.1), omega (arith, counted, room))

    timely_step : (o : Option ℕ) → MachineFits m → Timely o m → TimelyOn o (sign_of (in_kernel d.core d.history) (step d.core (bus_of d)))
    timely_step None f w = tt
    timely_step (Some most) f (zero, w, room) = absurd w
    timely_step (Some most) f (suc left, w, room) =
        let arrived = delivers m f in let same = arrived.count in (
          left,
          subst (λ (k : InKernel). FinishesOn (Finishes left) (sign_of k (step k.core (bus_of d)))) (in_kernel-arrived m.core m.history d.history arrived) (w (bus_of d) (bus-small d (delivered-fits m f))),
          omega (arith, same, room),
        )

    until : (rest : Stay) (h : InStay s code latest made rest m) → Passes h.since d.history
    until rest h = passes-then h.since m.history d.history h.passes (delivers m h.fits).passes

    fit : (rest : Stay) (h : InStay s code latest made rest m) → MachineFits d
    fit rest h = delivered-fits m h.fits

    quiet : (rest : Stay) (k : InKernel) (t : Turn) (bound : ℕ) → InStay s code latest made rest m → TimelyOn latest (Nothing k) → Signed d (Nothing k) t → Runs rom rest bound k → Goal t
    quiet rest k t bound h w (next, is, at, after) runs =
        subst Goal (sym is)
        (again made rest bound next
        (record { behind = h.behind; valid = h.valid; since = h.since; returns = h.returns; passes = passes-then h.since d.history next.history (until rest h) after.passes; began = after.began; fits = after.fits (fit rest h); words = after.words; timely = timely_next latest (Nothing k) k (λ left x. x) d.history next at after w })
        (subst (Runs rom rest bound) (sym at) runs))

    asked : (port : ℕ) (rest : ℕ → Stay) (at value : ℕ) (k : InKernel) (t : Turn) (bound : ℕ) → InStay s code latest made (Ask port rest) m → TimelyOn latest (PortRead k at value) → Signed d (PortRead k at value) t → at ≡ port → Runs rom (rest value) bound k → Goal t
    asked port rest at value k t bound h w (next, is, here, after) e runs =
        let o = run n next in
        subst Goal (sym is)
        (λ each. change o.items s code latest (ports_of (made ++ Asked port value ∷ [])) (ports_of made ++ Asked at value ∷ []) (bytes_of (made ++ Asked port value ∷ []) ++ o.tty) (bytes_of made ++ o.tty) o.last.core.bytes
        (ports-append made (Asked port value ∷ []) ∙ ap (λ (p : ℕ). ports_of made ++ Asked p value ∷ []) (sym e))
        (ap (λ (x : List ℕ). x ++ o.tty) (bytes-append made (Asked port value ∷ []) ∙ append-nil (bytes_of made)))
        (again (made ++ Asked port value ∷ []) (rest value) bound next
        (record {
          behind = behind-asked (stay_of s code) made port value rest h.behind;
          valid = h.valid value;
          since = then_event d.history (Read d.history.now port);
          returns = h.returns d.history value (until (Ask port rest) h);
          passes = subst (λ (p : ℕ). Passes (then_event d.history (Read d.history.now p)) next.history) e after.passes;
          began = after.began;
          fits = after.fits (fit (Ask port rest) h);
          words = after.words;
          timely = timely_next latest (PortRead k at value) k (λ left x. x) _ next here after w;
        })
        (subst (Runs rom (rest value) bound) (sym here) runs) each))

    told : (port value : ℕ) (rest : Stay) (at written : ℕ) (k : InKernel) (t : Turn) (bound : ℕ) → InStay s code latest made (Tell port value rest) m → TimelyOn latest (PortWritten k at written) → Signed d (PortWritten k at written) t → at ≡ port → written ≡ value → Runs rom rest bound k → Goal t
    told port value rest at written k t bound h w (next, is, here, after) e f runs =
        let o = run n next in
        subst Goal (sym is)
        (λ each. change o.items s code latest (ports_of (made ++ Told port value ∷ [])) (ports_of made ++ Told at written ∷ []) (bytes_of (made ++ Told port value ∷ []) ++ o.tty) (bytes_of made ++ o.tty) o.last.core.bytes
        (ports-append made (Told port value ∷ []) ∙ (λ i. ports_of made ++ Told (sym e i) (sym f i) ∷ []))
        (ap (λ (x : List ℕ). x ++ o.tty) (bytes-append made (Told port value ∷ []) ∙ append-nil (bytes_of made)))
        (again (made ++ Told port value ∷ []) rest bound next
        (record {
          behind = behind-told (stay_of s code) made port value rest h.behind;
          valid = h.valid;
          since = then_event d.history (Write d.history.now port value);
          returns = h.returns d.history (until (Tell port value rest) h);
          passes = subst (λ (v : ℕ). Passes (then_event d.history (Write d.history.now port v)) next.history) f (subst (λ (p : ℕ). Passes (then_event d.history (Write d.history.now p written)) next.history) e after.passes);
          began = after.began;
          fits = after.fits (fit (Tell port value rest) h);
          words = after.words;
          timely = timely_next latest (PortWritten k at written) k (λ left x. x) _ next here after w;
        })
        (subst (Runs rom rest bound) (sym here) runs) each))

    written : (byte : ℕ) (rest : Stay) (put : ℕ) (k : InKernel) (t : Turn) (bound : ℕ) → InStay s code latest made (Put byte rest) m → TimelyOn latest (Printed k put) → Signed d (Printed k put) t → put ≡ byte → Runs rom rest bound k → Goal t
    written byte rest put k t bound h w (next, value, is, here, low, after) e runs =
        let o = run n next in
        subst Goal (sym is)
        (λ each. change o.items s code latest (ports_of (made ++ Written byte ∷ [])) (ports_of made) (bytes_of (made ++ Written byte ∷ []) ++ o.tty) (bytes_of made ++ (put ∷ o.tty)) o.last.core.bytes
        (ports-append made (Written byte ∷ []) ∙ append-nil (ports_of made))
        (ap (λ (x : List ℕ). x ++ o.tty) (bytes-append made (Written byte ∷ [])) ∙ append_assoc (bytes_of made) (byte ∷ []) o.tty ∙ ap (λ (v : ℕ). bytes_of made ++ (v ∷ o.tty)) (sym e))
        (again (made ++ Written byte ∷ []) rest bound next
        (record {
          behind = behind-written (stay_of s code) made byte rest h.behind;
          valid = h.valid;
          since = then_event d.history (Write d.history.now CONSOLE_DATA value);
          returns = h.returns d.history value (until (Put byte rest) h) (low ∙ e);
          passes = after.passes;
          began = after.began;
          fits = after.fits (fit (Put byte rest) h);
          words = after.words;
          timely = timely_next latest (Printed k put) k (λ left x. x) _ next here after w;
        })
        (subst (Runs rom rest bound) (sym here) runs) each))

    returned : (state : KernelState) (core : Core) (t : Turn) → InStay s code latest made (Return state) m → TimelyOn latest (LeftKernel core) → Signed d (LeftKernel core) t → Stands (side_of core) core.bytes state rom → Goal t
    returned state core t h w (next, is, here, after) stands =
        let o = run n next in
        subst Goal (sym is)
        (λ each.
        let goes = main n next state (omega arith)
        (record {
          stands = subst (λ (k : Core). Stands (side_of k) k.bytes state rom) (sym here) stands;
          valid = h.valid;
          invariant = inv.time state h.since next.history h.returns (passes-then h.since d.history next.history (until (Return state) h) after.passes);
          began = after.began;
          fits = after.fits (fit (Return state) h);
          words = after.words;
        }) each in (
          (
            state,
            bytes_of made,
            o.tty,
            does s code made (Return state) h.behind (bytes_of made) (Returned state) refl refl,
            record { at = ap (λ (c : Context). c.pc) stands.context; interrupts = stands.sr; registers = ap (λ (c : Context). c.regs) stands.context },
            refl,
            subst (λ (c : ℕ). RunsFrom o.items (User state c) o.tty o.last.core.bytes) after.counted goes.0,
          ),
          (not_later latest core w, goes.1),
        ))
      where
        not_later : (l : Option ℕ) (x : Core) → TimelyOn l (LeftKernel x) → NotLater l (d.history.now + 1)
        not_later None x y = tt
        not_later (Some most) x y = let room = y.2 in omega (arith, room)

    halted : (stop : Stop) (memory : Memory) (core : Core) (told : Stop) (t : Turn) → InStay s code latest made (Halt stop memory) m → Signed d (EndedRun core told) t → told ≡ stop → SameUser core.bytes memory → Goal t
    halted stop memory core told t h (last, is, here, other) e same =
        subst Goal (sym is)
        (λ each. (
          inl (
            other,
            memory,
            subst (λ (x : Stop). Does s code (ports_of made) (bytes_of made ++ []) (Halted x memory)) (sym e) (does s code made (Halt stop memory) h.behind (bytes_of made ++ []) (Halted stop memory) (append-nil (bytes_of made)) refl),
            subst (λ (k : Core). SameUser k.bytes memory) (sym here) same,
          ),
          tt,
        ))

    made-words : CoreFits m.core → MachineFits m → MoveFits (step d.core (bus_of d))
    made-words w f = steps_keep_words d.core (bus_of d) w (bus-small d (delivered-fits m f))

    -- what the board brings to the step
    comes : (last : Sign → ℕ → Type 0) (bound : ℕ) → MachineFits m → Comes last bound (in_kernel m.core m.history)
        → (left : ℕ) × Onward (Comes last left) (λ (x : Sign). last x left) (sign_of (in_kernel d.core d.history) (step d.core (bus_of d)))
    comes last zero f c = absurd c
    comes last (suc left) f c =
        (left, subst (λ (k : InKernel). Onward (Comes last left) (λ (x : Sign). last x left) (sign_of k (step k.core (bus_of d)))) (in_kernel-arrived m.core m.history d.history (delivers m f)) (c (bus_of d) (bus-small d (delivered-fits m f))))

    on-return : (state : KernelState) (left : ℕ) (sign : Sign) (t : Turn) → InStay s code latest made (Return state) m → TimelyOn latest sign → Signed d sign t → Onward (Comes (Returns rom state) left) (λ (x : Sign). Returns rom state x left) sign → Goal t
    on-return state left (Nothing k) t h w sg c = quiet (Return state) k t left h w sg c
    on-return state left (LeftKernel core) t h w sg c = returned state core t h w sg c
    on-return state left _ t h w sg c = absurd c

    on-halt : (stop : Stop) (memory : Memory) (left : ℕ) (sign : Sign) (t : Turn) → InStay s code latest made (Halt stop memory) m → TimelyOn latest sign → Signed d sign t → Onward (Comes (HaltsWith stop memory) left) (λ (x : Sign). HaltsWith stop memory x left) sign → Goal t
    on-halt stop memory left (Nothing k) t h w sg c = quiet (Halt stop memory) k t left h w sg c
    on-halt stop memory left (EndedRun core told) t h w sg c = halted stop memory core told t h sg c.0 c.1
    on-halt stop memory left _ t h w sg c = absurd c

    abbrev Answers : (ℕ → Stay) → ℕ → ℕ → InKernel → Type 0
    Answers rest value left = Runs rom (rest value) (left + 128)

    on-ask : (port : ℕ) (rest : ℕ → Stay) (left : ℕ) (sign : Sign) (t : Turn) → InStay s code latest made (Ask port rest) m → TimelyOn latest sign → Signed d sign t → Onward (Comes (AsksFor port (Answers rest)) left) (λ (x : Sign). AsksFor port (Answers rest) x left) sign → Goal t
    on-ask port rest left (Nothing k) t h w sg c = quiet (Ask port rest) k t left h w sg c
    on-ask port rest left (PortRead k at value) t h w sg c = asked port rest at value k t (left + 128) h w sg c.0 c.1
    on-ask port rest left _ t h w sg c = absurd c

    abbrev Onwards : Stay → ℕ → InKernel → Type 0
    Onwards rest left = Runs rom rest (left + 128)

    on-tell : (port value : ℕ) (rest : Stay) (left : ℕ) (sign : Sign) (t : Turn) → InStay s code latest made (Tell port value rest) m → TimelyOn latest sign → Signed d sign t → Onward (Comes (WritesTo port value (Onwards rest)) left) (λ (x : Sign). WritesTo port value (Onwards rest) x left) sign → Goal t
    on-tell port value rest left (Nothing k) t h w sg c = quiet (Tell port value rest) k t left h w sg c
    on-tell port value rest left (PortWritten k at put) t h w sg c = told port value rest at put k t (left + 128) h w sg c.0 c.1 c.2
    on-tell port value rest left _ t h w sg c = absurd c

    on-write : (byte : ℕ) (rest : Stay) (left : ℕ) (sign : Sign) (t : Turn) → InStay s code latest made (Put byte rest) m → TimelyOn latest sign → Signed d sign t → Onward (Comes (Prints byte (Onwards rest)) left) (λ (x : Sign). Prints byte (Onwards rest) x left) sign → Goal t
    on-write byte rest left (Nothing k) t h w sg c = quiet (Put byte rest) k t left h w sg c
    on-write byte rest left (Printed k put) t h w sg c = written byte rest put k t (left + 128) h w sg c.0 c.1
    on-write byte rest left _ t h w sg c = absurd c

    stay_step : (rest : Stay) (bound : ℕ) → InStay s code latest made rest m → Runs rom rest bound (in_kernel m.core m.history) → Goal (stepped d)
    stay_step (Return state) bound h r =
        let c = comes (Returns rom state) bound h.fits r in on-return state c.0 (sign_of (in_kernel d.core d.history) (step d.core (bus_of d))) (stepped d) h (timely_step latest h.fits h.timely) (signed d h.began (step d.core (bus_of d)) (made-words h.words h.fits)) c.1
    stay_step (Halt stop memory) bound h r =
        let c = comes (HaltsWith stop memory) bound h.fits r in on-halt stop memory c.0 (sign_of (in_kernel d.core d.history) (step d.core (bus_of d))) (stepped d) h (timely_step latest h.fits h.timely) (signed d h.began (step d.core (bus_of d)) (made-words h.words h.fits)) c.1
    stay_step (Ask port rest) bound h r =
        let c = comes (AsksFor port (Answers rest)) bound h.fits r in on-ask port rest c.0 (sign_of (in_kernel d.core d.history) (step d.core (bus_of d))) (stepped d) h (timely_step latest h.fits h.timely) (signed d h.began (step d.core (bus_of d)) (made-words h.words h.fits)) c.1
    stay_step (Tell port value rest) bound h r =
        let c = comes (WritesTo port value (Onwards rest)) bound h.fits r in on-tell port value rest c.0 (sign_of (in_kernel d.core d.history) (step d.core (bus_of d))) (stepped d) h (timely_step latest h.fits h.timely) (signed d h.began (step d.core (bus_of d)) (made-words h.words h.fits)) c.1
    stay_step (Put byte rest) bound h r =
        let c = comes (Prints byte (Onwards rest)) bound h.fits r in on-write byte rest c.0 (sign_of (in_kernel d.core d.history) (step d.core (bus_of d))) (stepped d) h (timely_step latest h.fits h.timely) (signed d h.began (step d.core (bus_of d)) (made-words h.words h.fits)) c.1
    stay_step (Touch bytes rest) bound h r =
        stay_step rest (bound + 128 * bytes) (record { behind = h.behind; valid = h.valid; since = h.since; returns = h.returns; passes = h.passes; began = h.began; fits = h.fits; words = h.words; timely = h.timely }) r

  pub stay_run : (n : ℕ) → Main n → (s : KernelState) (code : ℕ) (latest : Option ℕ) → StayRest s code latest n
  stay_run zero main s code latest made rest bound m h r =
      subst (Holds (Kernel s code (ports_of made)) latest (bytes_of made)) (sym (run-zero m)) (λ each. (inr (refl, is_within s code made rest h.behind (bytes_of made ++ []) (append-nil (bytes_of made))), tt))
  stay_run (suc n) main s code latest made rest bound m h r =
      subst (Holds (Kernel s code (ports_of made)) latest (bytes_of made)) (sym (run-suc n m))
      (stay_step s code n latest main (stay_run n (λ j x t less. main j x t (omega arith)) s code latest) made m rest bound h r)
