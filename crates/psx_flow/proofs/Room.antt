-- A listing whose loads have room, as a tree.
use Rattle.std.proofs.Common.{◌≡◌, ℕ, zero, suc, ◌∙◌, Bool, true, false, Option, Some, None, List, [], ◌∷◌, refl, sym, ap, arith, ne_eqb}
use Rattle.std.specs.Prelude.{not, nat_eq, ◌&&◌, ◌||◌}
use Rattle.std.proofs.lemmas.Bool.{false≢true, true≢false}
use Rattle.psx_ins.specs.declared.ins.Ins.{Ins}
use Rattle.psx_ins.specs.declared.ins.Ins.TheVariants.{LB, LH, LWL, LW, LBU, LHU, LWR, MFC0}
use Rattle.psx_cpu.specs.Processor.{Bus}
use Rattle.psx_cpu.specs.Changes.{coming}
use Rattle.psx_cpu.specs.Effect.{effect}
use Rattle.psx_flow.specs.declared.node.Node.{Node}
use Rattle.psx_flow.specs.declared.node.Node.TheVariants.{Op, If, Other, While, End, Call, Jump, JumpTo}
use Rattle.psx_flow.specs.Tree.{Tree, Stop, Do, When, Choose, Loop, Visit, Go, GoTo, flat}
use Rattle.psx_flow.specs.Spaced.{touches, load_of, has_room, is_spaced}
use Rattle.psx_flow.specs.Run.{Run, state_at}
use Rattle.psx_flow.proofs.Step.{both}

-- what follows a load
abbrev pub room : Option ℕ → Tree → Bool
room None T = true
room (Some n) (Do i r) = nat_eq n 0 || not (touches i n)
room (Some n) _ = nat_eq n 0

abbrev pub spaced : Tree → Bool
spaced Stop = true
spaced (Do i r) = room (load_of i) r && spaced r
spaced (When t a r) = spaced a && spaced r
spaced (Choose t a b r) = spaced a && (spaced b && spaced r)
spaced (Loop t a r) = spaced a && spaced r
spaced (Visit a r) = spaced r
spaced (Go a r) = spaced r
spaced (GoTo n r) = spaced r

-- where a load is pending
abbrev pub clear : Option (ℕ × ℕ) → Tree → Bool
clear None T = true
clear (Some l) (Do i r) = not (touches i l.0)
clear (Some l) _ = false

abbrev begins_op : List Node → Bool
begins_op (Op i ∷ ns) = true
begins_op _ = false

closed_room : (n : ℕ) (k : List Node) → begins_op k ≡ false → has_room (Some n) k ≡ true → nat_eq n 0 ≡ true
closed_room n [] e h = h
closed_room n (Op i ∷ k) e h = absurd (true≢false e)
closed_room n (If t ∷ k) e h = h
closed_room n (Other ∷ k) e h = h
closed_room n (While t ∷ k) e h = h
closed_room n (End ∷ k) e h = h
closed_room n (Call a ∷ k) e h = h
closed_room n (Jump a ∷ k) e h = h
closed_room n (JumpTo r ∷ k) e h = h

room_of : (o : Option ℕ) (T : Tree) (k : List Node) → begins_op k ≡ false → has_room o (flat T k) ≡ true → room o T ≡ true
room_of None T k e h = refl
room_of (Some n) Stop k e h = closed_room n k e h
room_of (Some n) (Do i r) k e h = h
room_of (Some n) (When t a r) k e h = h
room_of (Some n) (Choose t a b r) k e h = h
room_of (Some n) (Loop t a r) k e h = h
room_of (Some n) (Visit a r) k e h = h
room_of (Some n) (Go a r) k e h = h
room_of (Some n) (GoTo m r) k e h = h

pub join : (a b : Bool) → a ≡ true → b ≡ true → (a && b) ≡ true
join true b h g = g
join false b h g = absurd (false≢true h)

-- what follows a part is spaced where both are
rest_spaced : (T : Tree) (k : List Node) → is_spaced (flat T k) ≡ true → is_spaced k ≡ true
rest_spaced Stop k h = h
rest_spaced (Do i r) k h = rest_spaced r k (both (has_room (load_of i) (flat r k)) (is_spaced (flat r k)) h).1
rest_spaced (When t a r) k h = rest_spaced r k (rest_spaced a (End ∷ flat r k) h)
rest_spaced (Choose t a b r) k h = rest_spaced r k (rest_spaced b (End ∷ flat r k) (rest_spaced a (Other ∷ flat b (End ∷ flat r k)) h))
rest_spaced (Loop t a r) k h = rest_spaced r k (rest_spaced a (End ∷ flat r k) h)
rest_spaced (Visit a r) k h = rest_spaced r k h
rest_spaced (Go a r) k h = rest_spaced r k h
rest_spaced (GoTo n r) k h = rest_spaced r k h

pub tree_spaced : (T : Tree) (k : List Node) → begins_op k ≡ false → is_spaced (flat T k) ≡ true → spaced T ≡ true
tree_spaced Stop k e h = refl
tree_spaced (Do i r) k e h =
    let p = both (has_room (load_of i) (flat r k)) (is_spaced (flat r k)) h in
    join (room (load_of i) r) (spaced r) (room_of (load_of i) r k e p.0) (tree_spaced r k e p.1)
tree_spaced (When t a r) k e h = join (spaced a) (spaced r) (tree_spaced a (End ∷ flat r k) refl h) (tree_spaced r k e (rest_spaced a (End ∷ flat r k) h))
tree_spaced (Choose t a b r) k e h =
    let q = rest_spaced a (Other ∷ flat b (End ∷ flat r k)) h in
    join (spaced a) (spaced b && spaced r) (tree_spaced a (Other ∷ flat b (End ∷ flat r k)) refl h)
    (join (spaced b) (spaced r) (tree_spaced b (End ∷ flat r k) refl q) (tree_spaced r k e (rest_spaced b (End ∷ flat r k) q)))
tree_spaced (Loop t a r) k e h = join (spaced a) (spaced r) (tree_spaced a (End ∷ flat r k) refl h) (tree_spaced r k e (rest_spaced a (End ∷ flat r k) h))
tree_spaced (Visit a r) k e h = tree_spaced r k e h
tree_spaced (Go a r) k e h = tree_spaced r k e h
tree_spaced (GoTo n r) k e h = tree_spaced r k e h

abbrev pub begins : Tree → Bool
begins (Do i r) = true
begins _ = false

-- nothing is pending where no Op follows
pub none_pending : (p : Option (ℕ × ℕ)) (T : Tree) → clear p T ≡ true → begins T ≡ false → p ≡ None
none_pending None T h e = refl
none_pending (Some l) Stop h e = absurd (false≢true h)
none_pending (Some l) (Do i r) h e = absurd (true≢false e)
none_pending (Some l) (When t a r) h e = absurd (false≢true h)
none_pending (Some l) (Choose t a b r) h e = absurd (false≢true h)
none_pending (Some l) (Loop t a r) h e = absurd (false≢true h)
none_pending (Some l) (Visit a r) h e = absurd (false≢true h)
none_pending (Some l) (Go a r) h e = absurd (false≢true h)
none_pending (Some l) (GoTo n r) h e = absurd (false≢true h)

no_zero : (t : ℕ) → nat_eq (suc t) 0 ≡ false
no_zero t = ne_eqb (suc t) 0 (λ e. omega (arith, e))

clear_coming : (t v : ℕ) (T : Tree) → room (Some t) T ≡ true → clear (coming t v) T ≡ true
clear_coming zero v T h = refl
clear_coming (suc t) v Stop h = absurd (false≢true (sym (no_zero t) ∙ h))
clear_coming (suc t) v (Do i r) h = sym (ap (λ b. b || not (touches i (suc t))) (no_zero t)) ∙ h
clear_coming (suc t) v (When u a r) h = absurd (false≢true (sym (no_zero t) ∙ h))
clear_coming (suc t) v (Choose u a b r) h = absurd (false≢true (sym (no_zero t) ∙ h))
clear_coming (suc t) v (Loop u a r) h = absurd (false≢true (sym (no_zero t) ∙ h))
clear_coming (suc t) v (Visit a r) h = absurd (false≢true (sym (no_zero t) ∙ h))
clear_coming (suc t) v (Go a r) h = absurd (false≢true (sym (no_zero t) ∙ h))
clear_coming (suc t) v (GoTo n r) h = absurd (false≢true (sym (no_zero t) ∙ h))

-- the load that an instruction leaves pending
pub clear_after : (i : Ins) (s : Run) (at : ℕ) (bus : Bus) (T : Tree) → room (load_of i) T ≡ true → clear (effect i (state_at s at) bus).context.pending T ≡ true
clear_after (LB b t imm) s at bus T h = clear_coming t.0 _ T h
clear_after (LH b t imm) s at bus T h = clear_coming t.0 _ T h
clear_after (LWL b t imm) s at bus T h = clear_coming t.0 _ T h
clear_after (LW b t imm) s at bus T h = clear_coming t.0 _ T h
clear_after (LBU b t imm) s at bus T h = clear_coming t.0 _ T h
clear_after (LHU b t imm) s at bus T h = clear_coming t.0 _ T h
clear_after (LWR b t imm) s at bus T h = clear_coming t.0 _ T h
clear_after (MFC0 t d) s at bus T h = clear_coming t.0 _ T h
clear_after _ s at bus T h = refl
