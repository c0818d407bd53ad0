use Rattle.std.proofs.Common.{inl, inr}
use Rattle.diagnosis.proofs.Faulty.{first_fault}
use Rattle.diagnosis.proofs.laws.what_shows_is_the_first_fault.Goals as goal

pub returns-clause-first : goal.returns-clause-first
returns-clause-first c place names x e n h = first_fault h

pub returns-clause-refused : goal.returns-clause-refused
returns-clause-refused c place names x e n (inl h) = inl (first_fault h)
returns-clause-refused c place names x e n (inr h) = inr (h.0, h.1, h.2, h.3)
