-- Entries that are delivered one after the other.
use Rattle.std.proofs.Common.{◌≡◌, ℕ, ◌+◌, ◌-◌, ◌<◌, ◌≤◌, Bool, true, false, List, [], ◌∷◌, length, take, drop, refl, sym, ap, ◌∙◌, arith}
use Rattle.std.specs.Prelude.{nat_le, if◌then◌else◌, All}
use Rattle.std.proofs.lemmas.List.{take_all, length-drop}
use Rattle.std.proofs.lemmas.List.Elements.{All-nil, All-cons}
use Rattle.psx_sched.specs.declared.schedule.Entry.{Entry}
use Rattle.psx_sched.specs.Schedule.{IsOrdered, IsPlausible}
use Rattle.psx_ports.specs.History.{History}
use Rattle.psx_ports.specs.Stands.{KeptPorts, StandsFor}
use Rattle.psx_board.specs.Devices.{NotBefore}
use Rattle.psx_board.specs.Delivery.{due, later, arrived, all_arrived}

-- the entries from an index on are still to be delivered to these ports
pub record Left (entries : List Entry) (count index : ℕ) (ports : KeptPorts) (h : History) : Type 0 where
  pub history : History
  pub stands : StandsFor ports history
  pub same : all_arrived history (due count (drop index entries)) ≡ all_arrived h (due count entries)

due-yes : (b : Bool) (e : Entry) (es : List Entry) (count : ℕ) → b ≡ true → (if b then e ∷ due count es else []) ≡ e ∷ due count es
due-yes true e es count is = refl
due-yes false e es count is = absurd cc

later-yes : (b : Bool) (e : Entry) (es : List Entry) (count : ℕ) → b ≡ true → (if b then later count es else e ∷ es) ≡ later count es
later-yes true e es count is = refl
later-yes false e es count is = absurd cc

due-no : (b : Bool) (e : Entry) (es : List Entry) (count : ℕ) → b ≡ false → (if b then e ∷ due count es else []) ≡ []
due-no true e es count is = absurd cc
due-no false e es count is = refl

later-no : (b : Bool) (e : Entry) (es : List Entry) (count : ℕ) → b ≡ false → (if b then later count es else e ∷ es) ≡ e ∷ es
later-no true e es count is = absurd cc
later-no false e es count is = refl

-- an entry whose count has come
pub due-cons : (e : Entry) (es : List Entry) (count : ℕ) → e.count ≤ count → due count (e ∷ es) ≡ e ∷ due count es
due-cons e es count come = due-yes (nat_le e.count count) e es count (grind arith)

pub later-cons : (e : Entry) (es : List Entry) (count : ℕ) → e.count ≤ count → later count (e ∷ es) ≡ later count es
later-cons e es count come = later-yes (nat_le e.count count) e es count (grind arith)

-- one whose count hasn't
pub due-none : (e : Entry) (es : List Entry) (count : ℕ) → count < e.count → due count (e ∷ es) ≡ []
due-none e es count early = due-no (nat_le e.count count) e es count (grind arith)

pub later-all : (e : Entry) (es : List Entry) (count : ℕ) → count < e.count → later count (e ∷ es) ≡ e ∷ es
later-all e es count early = later-no (nat_le e.count count) e es count (grind arith)

-- an entry more was delivered
pub left-more : (entries : List Entry) (count index : ℕ) (e : Entry) (before now : KeptPorts) (h : History) → drop index entries ≡ e ∷ drop (index + 1) entries → e.count ≤ count
    → ((g : History) → StandsFor before g → StandsFor now (arrived g e.what)) → Left entries count index before h → Left entries count (index + 1) now h
left-more entries count index e before now h split come one l = record {
  history = arrived l.history e.what;
  stands = one l.history l.stands;
  same = ap (all_arrived l.history) (sym (ap (due count) split ∙ due-cons e (drop (index + 1) entries) count come)) ∙ l.same;
}

-- no further entry is due
pub left-done : (entries : List Entry) (count index : ℕ) (ports : KeptPorts) (h : History) → due count (drop index entries) ≡ [] → Left entries count index ports h
    → StandsFor ports (all_arrived h (due count entries))
left-done entries count index ports h none l = rw (← l.same, none) l.stands

-- the rest of a list, as a slice of it is written
pub taken_whole : {X : Type 0} (n : ℕ) (xs : List X) → take (length xs - n) (drop n xs) ≡ drop n xs
taken_whole n xs = take_all (length xs - n) (drop n xs) (let e = length-drop n xs in omega (arith, e))

pub plausible : (least : ℕ) (entries : List Entry) → IsOrdered least entries → All IsPlausible entries
plausible least [] o = All-nil IsPlausible
plausible least (e ∷ es) o = All-cons IsPlausible e es o.1 (plausible e.count es o.2)

-- before the first count of the entries none is due
pub none-due : (count next : ℕ) (es : List Entry) → NotBefore next es → count < next → (due count es ≡ []) × (later count es ≡ es)
none-due count next [] first early = (refl, refl)
none-due count next (e ∷ es) first early = (due-none e es count (omega (arith, first, early)), later-all e es count (omega (arith, first, early)))
