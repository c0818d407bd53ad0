use Rattle.explanation_texts.proofs.values.+put_keys.Given as goal

abbrev pub decreases-put_keys : goal.decreases-put_keys
decreases-put_keys l = l.depth
