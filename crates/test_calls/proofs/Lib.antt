mod BatchEffects
