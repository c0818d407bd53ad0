-- What the answer of the function says of the whole expression.
use Rattle.std.proofs.Common.{◌≡◌, ◌⊎◌, inl, inr, ℕ, List, Bool, true, false, refl, sym, ap, subst, ◌∙◌}
use Rattle.std.specs.Prelude.{Result, Ok, Err}
use Rattle.expr_parser.specs.Tree.{SyntaxTree}
use Rattle.expr_types.specs.declared.fault.TypeFault.{TypeFault}
use Rattle.expr_types.specs.declared.fault.TypeFault.TheVariants.{NotInProfile, TypeError, UnknownName, NoMemory}
use Rattle.expr_types.specs.declared.place.Place.{Place}
use Rattle.expr_types.specs.declared.sort.Sort.{Sort}
use Rattle.expr_types.specs.HasSort.{HasSort, HasValue, HasSomeSort, is_value}
use Rattle.expr_types.specs.Faults.{FirstFault, IsRefused, HasName}
use Rattle.expr_types.specs.Working.SortOf.{sort_of}
use Rattle.expr_types.specs.Working.Gives.{Refuses, FindsName}
use Rattle.expr_types.proofs.Sorts.{sound, complete}
use Rattle.expr_types.proofs.Firsts.{fault_sound, fault_complete}

module _ (p : Place) (ns : List (List ℕ)) (x : SyntaxTree) where
  pub never_refused : {C : Type 0} (e : TypeFault) → Refuses {A = Sort} e (sort_of p ns x) → HasValue p ns x → C
  never_refused NoMemory r h = absurd (subst FindsName (complete h.1) r)
  never_refused (NotInProfile f) r h = let c = complete h.1 in cc
  never_refused TypeError r h = let c = complete h.1 in cc
  never_refused (UnknownName f) r h = let c = complete h.1 in cc

  wanted : (r : Result Sort TypeFault) → sort_of p ns x ≡ r → FindsName r → (e : TypeFault) × FirstFault p ns x e × HasName e
  wanted (Ok s) d n = absurd n
  wanted (Err e) d n = (e, fault_sound p ns x e d, n)

  pub found_first : (e : TypeFault) → Refuses {A = Sort} e (sort_of p ns x) → FirstFault p ns x e ⊎ ((e ≡ NoMemory) × (d : TypeFault) × FirstFault p ns x d × HasName d)
  found_first NoMemory r = let w = wanted (sort_of p ns x) refl r in inr (refl, w.0, w.1, w.2)
  found_first (NotInProfile f) r = inl (fault_sound p ns x (NotInProfile f) r)
  found_first TypeError r = inl (fault_sound p ns x TypeError r)
  found_first (UnknownName f) r = inl (fault_sound p ns x (UnknownName f) r)

  pub first_fault : (e : TypeFault) → Refuses {A = Sort} e (sort_of p ns x) → IsRefused p ns x e ⊎ ((e ≡ NoMemory) × (d : TypeFault) × IsRefused p ns x d × HasName d)
  first_fault NoMemory r = let w = wanted (sort_of p ns x) refl r in inr (refl, w.0, inl w.1, w.2)
  first_fault (NotInProfile f) r = inl (inl (fault_sound p ns x (NotInProfile f) r))
  first_fault TypeError r = inl (inl (fault_sound p ns x TypeError r))
  first_fault (UnknownName f) r = inl (inl (fault_sound p ns x (UnknownName f) r))

  pub has_value : (s : Sort) → sort_of p ns x ≡ Ok s → is_value s ≡ true → HasValue p ns x
  has_value s e i = (s, sound p ns x s e, i)

  pub no_value : {C : Type 0} (s : Sort) → sort_of p ns x ≡ Ok s → is_value s ≡ false → HasValue p ns x → C
  no_value s e i h = let c = complete h.1 in absurd (let z : s ≡ h.0 = cc in cc)

  pub refused_sort : (s : Sort) → sort_of p ns x ≡ Ok s → is_value s ≡ false → IsRefused p ns x TypeError
  refused_sort s e i = inr (s, sound p ns x s e, i, refl)

  pub sorted_or_faulty : (r : Result Sort TypeFault) → sort_of p ns x ≡ r → HasSomeSort p ns x ⊎ ((e : TypeFault) × FirstFault p ns x e)
  sorted_or_faulty (Ok s) d = inl (s, sound p ns x s d)
  sorted_or_faulty (Err e) d = inr (e, fault_sound p ns x e d)

  by_value : (s : Sort) → HasSort p ns x s → (b : Bool) → is_value s ≡ b → HasValue p ns x ⊎ ((e : TypeFault) × IsRefused p ns x e)
  by_value s h true i = inl (s, h, i)
  by_value s h false i = inr (TypeError, inr (s, h, i, refl))

  pub value_or_refused : (r : Result Sort TypeFault) → sort_of p ns x ≡ r → HasValue p ns x ⊎ ((e : TypeFault) × IsRefused p ns x e)
  value_or_refused (Ok s) d = by_value s (sound p ns x s d) (is_value s) refl
  value_or_refused (Err e) d = inr (e, inl (fault_sound p ns x e d))

  pub not_both : (e : TypeFault) → HasValue p ns x → IsRefused p ns x e → ⊥
  not_both e h (inl f) = let a = complete h.1 in let b = fault_complete f in cc
  not_both e h (inr g) = let a = complete h.1 in let b = complete g.1 in let z : h.0 ≡ g.0 = cc in absurd (let y : true ≡ false = sym h.2 ∙ ap is_value z ∙ g.2 in cc)

  pub same_refusal : (d e : TypeFault) → IsRefused p ns x d → IsRefused p ns x e → d ≡ e
  same_refusal d e (inl f) (inl g) = let a = fault_complete f in let b = fault_complete g in cc
  same_refusal d e (inl f) (inr g) = let a = fault_complete f in let b = complete g.1 in cc
  same_refusal d e (inr f) (inl g) = let a = complete f.1 in let b = fault_complete g in cc
  same_refusal d e (inr f) (inr g) = f.3 ∙ sym g.3
