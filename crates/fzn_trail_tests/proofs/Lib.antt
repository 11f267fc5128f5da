mod CarriedLemmas
