-- The items of a kernel run determine its console bytes and the user's memory at its end.
use Rattle.std.proofs.Common.{◌≡◌, ◌≢◌, ℕ, zero, suc, Bool, true, false, Option, Some, None, List, [], ◌∷◌, ◌++◌, ◌⊎◌, inl, inr, refl, sym, ap, subst, ◌∙◌, arith}
use Rattle.std.specs.Prelude.{if◌then◌else◌, nat_eq}
use Rattle.std.proofs.lemmas.Bool.{eqb-true}
use Rattle.psx_base.specs.declared.address.Gate.{Gate}
use Rattle.psx_base.specs.declared.address.Gate.TheVariants.{A, B as GateB, C, Done, Back}
use Rattle.psx_base.specs.declared.stop.Stop.TheVariants.{Budget}
use Rattle.psx_base.specs.declared.stop.Sizes.{Sizes}
use Rattle.psx_base.specs.Addresses.{gate_of}
use Rattle.psx_base.specs.Memory.{Memory, byte}
use Rattle.psx_base.specs.Context.{Context, epc_of}
use Rattle.psx_base.specs.Items.{ByInterrupt, ByTrap, Item, B, E, R, W, X, S}
use Rattle.psx_base.specs.Entrances.{entrance, by_syscall}
use Rattle.psx_base.specs.KernelState.{KernelState}
use Rattle.psx_exe.specs.declared.exe.Exe.{Exe}
use Rattle.psx_cpu.specs.Processor.{Trap}
use Rattle.psx_cpu.specs.UserStep.{Next, Raises}
use Rattle.kern_layout.specs.Stands.{SameUser}
use Rattle.abs_kernel.specs.Cause.{entrance_of}
use Rattle.abs_kernel.specs.Played.{Asked, Told, Returned, Halted}
use Rattle.abs_kernel.specs.UserLaws.{stepped}
use Rattle.abs_run.specs.Accepted.{opening}
use Rattle.abs_run.specs.Entered.{UserSteps, MayEnter}
use Rattle.abs_run.specs.KernelRun.{Place, User, Kernel, RunsFrom, EndsInBoot, ComesToProgram}
use Rattle.abs_run.specs.RunLaws.{EndsWhole, ItemsDetermine}

-- ---- user code

steps-one : (k : ℕ) (s t u : KernelState) → UserSteps k s t → UserSteps k s u → t ≡ u
steps-one zero s t u h g = h ∙ sym g
steps-one (suc k) s t u (c, m, e, rest) (c', m', e', rest') =
    let same : Next c m ≡ Next c' m' = sym e ∙ e' in
    let first : c ≡ c' = cc same in
    let second : m ≡ m' = cc same in
    steps-one k (stepped s c' m') t u (subst (λ (x : Memory). UserSteps k (stepped s c' x) t) second (subst (λ (x : Context). UserSteps k (stepped s x m) t) first rest)) rest'

-- ---- entries

syscall-other : (slot : Bool) (g : Option Gate) → by_syscall slot g ≢ ByInterrupt
syscall-other true g e = absurd (cc e)
syscall-other false None e = absurd (cc e)
syscall-other false (Some A) e = absurd (cc e)
syscall-other false (Some GateB) e = absurd (cc e)
syscall-other false (Some C) e = absurd (cc e)
syscall-other false (Some Done) e = absurd (cc e)
syscall-other false (Some Back) e = absurd (cc e)

-- only an interrupt's code is 0
interrupt-code : (code : ℕ) (slot : Bool) (epc : ℕ) → entrance code slot epc ≡ ByInterrupt → code ≡ 0
interrupt-code code slot epc e = by_tests (nat_eq code 0) (nat_eq code 8) refl e
  where
    by_tests : (a b : Bool) → nat_eq code 0 ≡ a → (if a then ByInterrupt else (if b then by_syscall slot (gate_of epc) else ByTrap)) ≡ ByInterrupt → code ≡ 0
    by_tests true b is h = eqb-true code 0 is
    by_tests false true is h = absurd (syscall-other slot (gate_of epc) h)
    by_tests false false is h = absurd (cc h)

code-one : (s : KernelState) (t u : Trap) → MayEnter s t → MayEnter s u → entrance_of s.running.context t.code ≡ entrance_of s.running.context u.code → t.code ≡ u.code
code-one s t u (inl e) (inl f) same = ap (λ (x : Trap). x.code) (let is : Raises t ≡ Raises u = sym e ∙ f in let both : t ≡ u = cc is in both)
code-one s t u (inr e) (inr f) same = ap (λ (x : Trap). x.code) (e.0 ∙ sym f.0)
code-one s t u (inl e) (inr f) same =
    let zero_code : u.code ≡ 0 = ap (λ (x : Trap). x.code) f.0 in
    let c = s.running.context in
    interrupt-code t.code c.in_slot (epc_of c) (same ∙ ap (λ (x : ℕ). entrance x c.in_slot (epc_of c)) zero_code) ∙ sym zero_code
code-one s t u (inr e) (inl f) same =
    let zero_code : t.code ≡ 0 = ap (λ (x : Trap). x.code) e.0 in
    let c = s.running.context in
    zero_code ∙ sym (interrupt-code u.code c.in_slot (epc_of c) (sym same ∙ ap (λ (x : ℕ). entrance x c.in_slot (epc_of c)) zero_code))

-- ---- runs

abbrev in_stay : Place → Bool
in_stay (User s c) = false
in_stay (Kernel s code made) = true

same-through : (x y m n : Memory) → m ≡ n → SameUser x m → SameUser y n → SameUser x y
same-through x y m n e h g = λ a u. h a u ∙ ap (λ z. byte z a) e ∙ sym (g a u)

abbrev One : List ℕ → List ℕ → Memory → Memory → Type 0
One tty other ram ram' = (tty ≡ other) × SameUser ram ram'

one : (items : List Item) (place : Place) (tty other : List ℕ) (ram ram' : Memory) → RunsFrom items place tty ram → RunsFrom items place other ram' → EndsWhole (in_stay place) items → One tty other ram ram'
one (E count cause epc gate number ∷ rest) (User s c) tty other ram ram' (k, t, trap, steps, at, may, shown, goes) (k', t', trap', steps', at', may', shown', goes') whole =
    let k_same : k' ≡ k = omega arith in
    let t_same : t' ≡ t = steps-one k s t' t (subst (λ (x : ℕ). UserSteps x s t') k_same steps') steps in
    let gates : entrance_of t.running.context trap.code ≡ entrance_of t.running.context trap'.code = sym shown.by ∙ shown'.by ∙ ap (λ (x : KernelState). entrance_of x.running.context trap'.code) t_same in
    let codes : trap.code ≡ trap'.code = code-one t trap trap' may (subst (λ (x : KernelState). MayEnter x trap') t_same may') gates in
    one rest (Kernel t trap.code []) tty other ram ram' goes
    (subst (λ (x : ℕ). RunsFrom rest (Kernel t x []) other ram') (sym codes) (subst (λ (x : KernelState). RunsFrom rest (Kernel x trap'.code []) other ram') t_same goes')) whole
one (S count stop ∷ []) (User s c) tty other ram ram' h g whole =
    let a = h.counted in let b = g.counted in
    let k_same : g.steps ≡ h.steps = omega arith in
    let t_same : h.state ≡ g.state = steps-one h.steps s h.state g.state h.made (subst (λ (x : ℕ). UserSteps x s g.state) k_same g.made) in
    (h.silent ∙ sym g.silent, same-through ram ram' h.state.memory g.state.memory (ap (λ (x : KernelState). x.memory) t_same) h.memory g.memory)
one (R count at value ∷ rest) (Kernel s code made) tty other ram ram' h g whole = one rest (Kernel s code (made ++ Asked at value ∷ [])) tty other ram ram' h g whole
one (W count at value ∷ rest) (Kernel s code made) tty other ram ram' h g whole = one rest (Kernel s code (made ++ Told at value ∷ [])) tty other ram ram' h g whole
one (X count pc sr regs ∷ rest) (Kernel s code made) tty other ram ram' (t, bytes, more, does, shown, is, goes) (t', bytes', more', does', shown', is', goes') whole =
    let ends : Returned t' ≡ Returned t = sym does'.ends ∙ does.ends in
    let t_same : t' ≡ t = cc ends in
    let later = one rest (User t count) more more' ram ram' goes (subst (λ (x : KernelState). RunsFrom rest (User x count) more' ram') t_same goes') whole in
    (is ∙ (λ i. (sym does.prints ∙ does'.prints) i ++ later.0 i) ∙ sym is', later.1)
one (S count stop ∷ []) (Kernel s code made) tty other ram ram' (inl (n, m, does, same)) (inl (n', m', does', same')) whole =
    let ends : Halted stop m ≡ Halted stop m' = sym does.ends ∙ does'.ends in
    let m_same : m ≡ m' = cc ends in
    (sym does.prints ∙ does'.prints, same-through ram ram' m m' m_same same same')
one (S count stop ∷ []) (Kernel s code made) tty other ram ram' (inr h) g whole = absurd (whole h.0)
one (S count stop ∷ []) (Kernel s code made) tty other ram ram' (inl h) (inr g) whole = absurd (whole g.0)
one _ place tty other ram ram' h g whole = absurd h

-- ---- whole runs

in_boot : (exe : Exe) (items : List Item) (tty other : List ℕ) (ram ram' : Memory) → EndsInBoot exe items tty ram → EndsInBoot exe items other ram' → One tty other ram ram'
in_boot exe items tty other ram ram' h g = (h.silent ∙ sym g.silent, same-through ram ram' _ _ refl h.memory g.memory)

in_program : (exe : Exe) (sizes : Sizes) (items : List Item) (tty other : List ℕ) (ram ram' : Memory) → ComesToProgram exe sizes items tty ram → ComesToProgram exe sizes items other ram' → EndsWhole false items → One tty other ram ram'
in_program exe sizes items tty other ram ram' h g whole =
    let same : B g.count ∷ g.rest ≡ B h.count ∷ h.rest = sym g.shown ∙ h.shown in
    let counts : g.count ≡ h.count = cc same in
    let rests : g.rest ≡ h.rest = cc same in
    let start = opening exe sizes in
    one h.rest (User start h.count) tty other ram ram' h.runs
    (subst (λ (x : ℕ). RunsFrom h.rest (User start x) other ram') counts (subst (λ (x : List Item). RunsFrom x (User start g.count) other ram') rests g.runs))
    (subst (EndsWhole false) h.shown whole)

apart : (exe : Exe) (sizes : Sizes) (items : List Item) (tty other : List ℕ) (ram ram' : Memory) → EndsInBoot exe items tty ram → ComesToProgram exe sizes items other ram' → ⊥
apart exe sizes items tty other ram ram' h g = let same : S h.count Budget ∷ [] ≡ B g.count ∷ g.rest = sym h.shown ∙ g.shown in absurd (cc same)

both : (exe : Exe) (sizes : Sizes) (items : List Item) (tty other : List ℕ) (ram ram' : Memory) → EndsInBoot exe items tty ram ⊎ ComesToProgram exe sizes items tty ram → EndsInBoot exe items other ram' ⊎ ComesToProgram exe sizes items other ram' → EndsWhole false items → One tty other ram ram'
both exe sizes items tty other ram ram' (inl h) (inl g) whole = in_boot exe items tty other ram ram' h g
both exe sizes items tty other ram ram' (inr h) (inr g) whole = in_program exe sizes items tty other ram ram' h g whole
both exe sizes items tty other ram ram' (inl h) (inr g) whole = absurd (apart exe sizes items tty other ram ram' h g)
both exe sizes items tty other ram ram' (inr h) (inl g) whole = absurd (apart exe sizes items other tty ram' ram g h)

pub items_determine : ItemsDetermine
items_determine exe sizes items tty other ram ram' h g whole = both exe sizes items tty other ram ram' h.comes g.comes whole
