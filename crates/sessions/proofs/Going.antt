-- What goes by between a server, its clock and its peer, put together.
use Rattle.std.proofs.Common.{◌≡◌, ℕ, List, [], ◌∷◌, ◌++◌, refl, ap, sym, subst, ◌∙◌, append-nil, append_assoc}
use Rattle.std.specs.Prelude.{Option, Some, None}
use Rattle.locked_server.specs.Known.{Known}
use Rattle.sessions.specs.Traffic.{Traffic, Adds, Takes, Moves}
use Rattle.sessions.specs.Calls.{Answered, Gains}
use Rattle.sessions.specs.Turns.{Deeds, nothing, both}
use Rattle.sessions.specs.Serving.{World, world, Goes}
use Rattle.sessions.proofs.Gaining.{gains_none, gains_both}

module _ {A : Type 0} where
  pub adds_none : (a : Option (List A)) → Adds a [] a
  adds_none None = refl
  adds_none (Some xs) = ap Some (sym (append-nil xs))

  pub adds_both : (a b c : Option (List A)) (x y : List A) → Adds a x b → Adds b y c → Adds a (x ++ y) c
  adds_both None b c x y p q = subst (λ (o : Option (List A)). Adds o y c) p q
  adds_both (Some m) b c x y p q = let r : Adds (Some (m ++ x)) y c = subst (λ (o : Option (List A)). Adds o y c) p q in r ∙ ap Some (append_assoc m x y)

  pub takes_none : (a : Option (List A)) → Takes a [] a
  takes_none None = refl
  takes_none (Some xs) = (xs, refl, refl)

  pub takes_both : (a b c : Option (List A)) (x y : List A) → Takes a x b → Takes b y c → Takes a (x ++ y) c
  takes_both None b c x y p q = subst (λ (o : Option (List A)). Takes o y c) p q
  takes_both (Some m) b c x y p q = let r : Takes (Some p.0) y c = subst (λ (o : Option (List A)). Takes o y c) p.2 q in
      (r.0, p.1 ∙ ap (λ (l : List A). x ++ l) r.1 ∙ sym (append_assoc x y r.0), r.2)

-- ---- the peer alone

pub moves_none : (p q : Traffic) → q.left ≡ p.left → q.sent ≡ p.sent → Moves p [] [] q
moves_none p q a b = record {
  takes = subst (λ (o : Option (List (List ℕ))). Takes p.left [] o) (sym a) (takes_none p.left);
  adds = subst (λ (o : Option (List (List ℕ))). Adds p.sent [] o) (sym b) (adds_none p.sent);
}

pub moves_both : (p q r : Traffic) (a b c d : List (List ℕ)) → Moves p a b q → Moves q c d r → Moves p (a ++ c) (b ++ d) r
moves_both p q r a b c d x y = record { takes = takes_both p.left q.left r.left a c x.takes y.takes; adds = adds_both p.sent q.sent r.sent b d x.adds y.adds }

-- ---- all together

pub both-nothing : (d : Deeds) → both d nothing ≡ d
both-nothing d = λ i. record { moments = append-nil d.moments i; calls = append-nil d.calls i; texts = append-nil d.texts i }

pub both-both : (d e f : Deeds) → both (both d e) f ≡ both d (both e f)
both-both d e f = λ i. record { moments = append_assoc d.moments e.moments f.moments i; calls = append_assoc d.calls e.calls f.calls i; texts = append_assoc d.texts e.texts f.texts i }

pub goes_nothing : (w : World) → Goes w [] nothing w
goes_nothing w = record { reads = adds_none w.moments; gains = gains_none w.seat; takes = takes_none w.traffic.left; sends = adds_none w.traffic.sent }

pub goes_both : (a b c : World) (g h : List (List ℕ)) (d e : Deeds) → Goes a g d b → Goes b h e c → Goes a (g ++ h) (both d e) c
goes_both a b c g h d e x y = record {
  reads = adds_both a.moments b.moments c.moments d.moments e.moments x.reads y.reads;
  gains = gains_both a.seat b.seat c.seat d.calls e.calls x.gains y.gains;
  takes = takes_both a.traffic.left b.traffic.left c.traffic.left g h x.takes y.takes;
  sends = adds_both a.traffic.sent b.traffic.sent c.traffic.sent d.texts e.texts x.sends y.sends;
}

-- where the second half receives nothing
pub goes_on : (a b c : World) (g : List (List ℕ)) (d e : Deeds) → Goes a g d b → Goes b [] e c → Goes a g (both d e) c
goes_on a b c g d e x y = subst (λ (l : List (List ℕ)). Goes a l (both d e) c) (append-nil g) (goes_both a b c g [] d e x y)

-- the peer alone has moved
pub goes_by : (k : Known) (m : Option (List ℕ)) (p q : Traffic) (messages texts : List (List ℕ)) → Moves p messages texts q → Goes (world k m p) messages (record nothing { texts = texts }) (world k m q)
goes_by k m p q messages texts x = record { reads = adds_none m; gains = gains_none k; takes = x.takes; sends = x.adds }

-- a moment was read, these calls were made, and these texts were sent
pub goes_calling : (k l : Known) (m n : Option (List ℕ)) (p q : Traffic) (now : ℕ) (made : List Answered) (texts : List (List ℕ)) → Adds m (now ∷ []) n → Gains k made l → Moves p [] texts q
    → Goes (world k m p) [] (record { moments = now ∷ []; calls = made; texts = texts }) (world l n q)
goes_calling k l m n p q now made texts reads gains moves = record { reads = reads; gains = gains; takes = moves.takes; sends = moves.adds }
