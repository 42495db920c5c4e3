mod DueCalls
