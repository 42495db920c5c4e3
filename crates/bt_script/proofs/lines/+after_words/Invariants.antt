use Rattle.bt_script.proofs.lines.+after_words.Given as goal

abbrev pub decreases-after_words : goal.decreases-after_words
decreases-after_words l = l.count
