-- Lists that are shuffled into one.
use Rattle.std.proofs.Common.{◌≡◌, List, [], ◌∷◌, ◌++◌, map, refl, ap, sym, subst, ◌∙◌, inl, inr}
use Rattle.locked_server.specs.History.{Shuffled}
use Rattle.server.specs.Served.{AllShuffled}

module _ {A : Type 0} where
  -- the first alone
  pub first_alone : (xs : List A) → Shuffled xs [] xs
  unfolding Shuffled
  first_alone [] = (refl, refl)
  first_alone (x ∷ xs) = inl (xs, refl, first_alone xs)

  -- the second alone
  pub second_alone : (ys : List A) → Shuffled [] ys ys
  unfolding Shuffled
  second_alone [] = (refl, refl)
  second_alone (y ∷ ys) = inr (ys, refl, second_alone ys)

  -- one behind the other is a shuffle
  pub one_behind : (xs ys : List A) → Shuffled xs ys (xs ++ ys)
  unfolding Shuffled
  one_behind [] ys = second_alone ys
  one_behind (x ∷ xs) ys = inl (xs, refl, one_behind xs ys)

  -- where the first is empty, all is the second
  pub is_second : (ys all : List A) → Shuffled [] ys all → all ≡ ys
  unfolding Shuffled
  is_second ys [] (none, is) = sym is
  is_second ys (z ∷ zs) (inl (rest, is, s)) = absurd (let e : [] ≡ z ∷ rest = is in cc)
  is_second ys (z ∷ zs) (inr (rest, is, s)) = ap (λ (l : List A). z ∷ l) (is_second rest zs s) ∙ sym is

  in_front : (xs ys zs all front : List A) (w : A) → ((xs' ys' : List A) → Shuffled xs' ys' front → (rest : List A) × Shuffled ys' zs rest × Shuffled xs' rest all) → Shuffled xs ys (w ∷ front)
      → (rest : List A) × Shuffled ys zs rest × Shuffled xs rest (w ∷ all)
  unfolding Shuffled
  in_front xs ys zs all front w others (inl (xs', is, s)) = let it = others xs' ys s in (it.0, it.1, inl (xs', is, it.2))
  in_front xs ys zs all front w others (inr (ys', is, s)) = let it = others xs ys' s in (w ∷ it.0, inl (ys', is, it.1), inr (it.0, refl, it.2))

  -- of three, the last two may be shuffled first
  pub regrouped : (xs ys zs front all : List A) → Shuffled xs ys front → Shuffled front zs all → (rest : List A) × Shuffled ys zs rest × Shuffled xs rest all
  unfolding Shuffled
  regrouped xs ys zs front [] s (none, no_more) = let both : (xs ≡ []) × (ys ≡ []) = subst (λ (l : List A). Shuffled xs ys l) none s in ([], (both.1, no_more), (both.0, refl))
  regrouped xs ys zs front (w ∷ all) s (inl (front', is, t)) =
      in_front xs ys zs all front' w (λ xs' ys' s'. regrouped xs' ys' zs front' all s' t) (subst (λ (l : List A). Shuffled xs ys l) is s)
  regrouped xs ys zs front (w ∷ all) s (inr (zs', is, t)) = let it = regrouped xs ys zs' front all s t in (w ∷ it.0, inr (zs', is, it.1), inr (it.0, refl, it.2))

  -- two shuffles of many, shuffled
  pub both_shuffled : (these those : List (List A)) (xs ys all : List A) → AllShuffled these xs → AllShuffled those ys → Shuffled xs ys all → AllShuffled (these ++ those) all
  both_shuffled [] those xs ys all none some s = subst (λ (l : List A). AllShuffled those l) (sym (is_second ys all (subst (λ (l : List A). Shuffled l ys all) none s))) some
  both_shuffled (x ∷ these) those xs ys all (rest, others, t) some s = let it = regrouped x rest ys xs all t s in (it.0, both_shuffled these those rest ys it.0 others some it.1, it.2)

module _ {A B : Type 0} (f : A → B) where
  -- what stands for the elements is shuffled as they are
  pub shuffled_map : (xs ys all : List A) → Shuffled xs ys all → Shuffled (map f xs) (map f ys) (map f all)
  unfolding Shuffled
  shuffled_map xs ys [] (none, none_too) = (ap (map f) none, ap (map f) none_too)
  shuffled_map xs ys (z ∷ all) (inl (rest, is, s)) = inl (map f rest, ap (map f) is, shuffled_map rest ys all s)
  shuffled_map xs ys (z ∷ all) (inr (rest, is, s)) = inr (map f rest, ap (map f) is, shuffled_map xs rest all s)
