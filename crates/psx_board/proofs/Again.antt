-- What was delivered isn't delivered again.
use Rattle.std.proofs.Common.{◌≡◌, ℕ, Bool, true, false, List, [], ◌∷◌, refl, ap, ◌∙◌}
use Rattle.std.specs.Prelude.{nat_le, if◌then◌else◌}
use Rattle.psx_sched.specs.declared.schedule.What.{What}
use Rattle.psx_sched.specs.declared.schedule.What.TheVariants.{Byte, Line}
use Rattle.psx_sched.specs.declared.schedule.Entry.{Entry}
use Rattle.psx_ports.specs.History.{History}
use Rattle.psx_board.specs.Delivery.{due, later, arrived, all_arrived}

arrived-now : (h : History) (what : What) → (arrived h what).now ≡ h.now
arrived-now h (Byte byte) = refl
arrived-now h (Line line) = refl

-- deliveries leave the count
pub all_arrived-now : (h : History) (es : List Entry) → (all_arrived h es).now ≡ h.now
all_arrived-now h [] = refl
all_arrived-now h (e ∷ es) = all_arrived-now (arrived h e.what) es ∙ arrived-now h e.what

due-later-by : (b : Bool) (count : ℕ) (e : Entry) (es : List Entry) → nat_le e.count count ≡ b → due count (later count es) ≡ [] → due count (if b then later count es else e ∷ es) ≡ []
due-later-by true count e es is rest = rest
due-later-by false count e es is rest = ap (λ b. if b then e ∷ due count es else []) is

due-later : (count : ℕ) (es : List Entry) → due count (later count es) ≡ []
due-later count [] = refl
due-later count (e ∷ es) = due-later-by (nat_le e.count count) count e es refl (due-later count es)

later-later-by : (b : Bool) (count : ℕ) (e : Entry) (es : List Entry) → nat_le e.count count ≡ b → later count (later count es) ≡ later count es
    → later count (if b then later count es else e ∷ es) ≡ (if b then later count es else e ∷ es)
later-later-by true count e es is rest = rest
later-later-by false count e es is rest = ap (λ b. if b then later count es else e ∷ es) is

later-later : (count : ℕ) (es : List Entry) → later count (later count es) ≡ later count es
later-later count [] = refl
later-later count (e ∷ es) = later-later-by (nat_le e.count count) count e es refl (later-later count es)

-- the history and the rest, by the count at which the rest is looked at
pub arrived-again : (count : ℕ) (h : History) (es : List Entry) → h.now ≡ count → all_arrived h (due h.now (later count es)) ≡ h
arrived-again count h es is = ap (λ (n : ℕ). all_arrived h (due n (later count es))) is ∙ ap (all_arrived h) (due-later count es)

pub later-again : (count now : ℕ) (es : List Entry) → now ≡ count → later now (later count es) ≡ later count es
later-again count now es is = ap (λ (n : ℕ). later n (later count es)) is ∙ later-later count es
