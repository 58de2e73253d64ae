-- The small runs, computed event by event, and what is not a step in them.
use Rattle.std.proofs.Common.{◌≡◌, ℕ, true, false, [], ◌∷◌, Option, Some, refl, sym, ap, ◌∙◌, inl, arith}
use Rattle.bus_signals.specs.declared.BusEvent.TheVariants.{Rd, Rfo, Inv, Urd, Bwr}
use Rattle.moesi_state.specs.declared.State.TheVariants.{M, O, E, S, I}
use Rattle.moesi_state.specs.declared.Outcome.TheVariants.{Fixed, OnHit}
use Rattle.class_relation.specs.Actions.{answer}
use Rattle.bus_model.specs.Events.{Transaction, Memory, Board}
use Rattle.bus_model.specs.Carrying.{no_takers, source_of}
use Rattle.bus_model.specs.Settling.{lines_after, driven_below, rounds_from}
use Rattle.bus_model.specs.Steps.{Can}
use Rattle.bus_model.specs.Turns.{turn, Waits, LineHeld}
use Rattle.bus_model.specs.WorkedWords.{read, write, connection, says, data_of, did}
use Rattle.bus_model.specs.WorkedRuns.{Plays, intervention, intervention_schedule, intervention_events, intervention_end, broadcast, broadcast_schedule, broadcast_events, broadcast_end, no_hit, no_hit_schedule, no_hit_events, no_hit_end, gap, gap_schedule, gap_events, gap_end, quiet_read, quiet_read_schedule, quiet_read_events, quiet_read_end, intervening, between_phases}
use Rattle.bus_model.proofs.WorkedSetups

pub intervention_plays : Plays intervention intervention_schedule intervention_events intervention_end
unfolding lines_after driven_below rounds_from
intervention_plays =
    record {
      fits = WorkedSetups.intervention_fits;
      accepted = WorkedSetups.intervention_accepted;
      turns = refl;
      runs = (
        (
          write 5 7,
          record { present = refl; not_raised = refl; not_granted = refl; not_connected = refl; needs = refl },
        ),
        (
          record {
            idle = refl;
            by_raised = refl;
            wins = record { competes = refl; number_highest = refl; lines_settled = refl; rounds_settled = refl };
          },
          (
            (
              write 5 7,
              record {
                present = refl;
                granted = refl;
                purpose = inl (record { line = refl; alternative = refl; room = λ h. cc });
                answers = tt;
              },
            ),
            (
              (
                connection 1 Rfo 1 (Fixed M) ([]),
                record {
                  present = refl;
                  connected = refl;
                  master = refl;
                  event = refl;
                  line = refl;
                  source = refl;
                  takers = refl;
                  states = refl;
                  done = refl;
                },
              ),
              (
                (
                  read 5,
                  record { present = refl; not_raised = refl; not_granted = refl; not_connected = refl; needs = refl },
                ),
                (
                  record {
                    idle = refl;
                    by_raised = refl;
                    wins =
                        record { competes = refl; number_highest = refl; lines_settled = refl; rounds_settled = refl };
                  },
                  (
                    (
                      read 5,
                      record {
                        present = refl;
                        granted = refl;
                        purpose = inl (record { line = refl; alternative = refl; room = λ h. cc });
                        answers = (refl, refl, tt);
                      },
                    ),
                    (
                      (
                        connection 2 Urd 1 (Fixed I) (says 1 (answer M false true false) ∷ []),
                        record {
                          present = refl;
                          connected = refl;
                          master = refl;
                          event = refl;
                          line = refl;
                          source = refl;
                          takers = refl;
                          states = refl;
                          done = refl;
                        },
                      ),
                      refl,
                    ),
                  ),
                ),
              ),
            ),
          ),
        ),
      );
    }

pub broadcast_plays : Plays broadcast broadcast_schedule broadcast_events broadcast_end
unfolding lines_after driven_below rounds_from
broadcast_plays =
    record {
      fits = WorkedSetups.broadcast_fits;
      accepted = WorkedSetups.broadcast_accepted;
      turns = refl;
      runs = (
        (
          write 0 5,
          record { present = refl; not_raised = refl; not_granted = refl; not_connected = refl; needs = refl },
        ),
        (
          record {
            idle = refl;
            by_raised = refl;
            wins = record { competes = refl; number_highest = refl; lines_settled = refl; rounds_settled = refl };
          },
          (
            (
              write 0 5,
              record {
                present = refl;
                granted = refl;
                purpose = inl (record { line = refl; alternative = refl; room = λ h. cc });
                answers = tt;
              },
            ),
            (
              (
                connection 1 Rfo 0 (Fixed M) ([]),
                record {
                  present = refl;
                  connected = refl;
                  master = refl;
                  event = refl;
                  line = refl;
                  source = refl;
                  takers = refl;
                  states = refl;
                  done = refl;
                },
              ),
              (
                (
                  read 0,
                  record { present = refl; not_raised = refl; not_granted = refl; not_connected = refl; needs = refl },
                ),
                (
                  record {
                    idle = refl;
                    by_raised = refl;
                    wins =
                        record { competes = refl; number_highest = refl; lines_settled = refl; rounds_settled = refl };
                  },
                  (
                    (
                      read 0,
                      record {
                        present = refl;
                        granted = refl;
                        purpose = inl (record { line = refl; alternative = refl; room = λ h. cc });
                        answers = (refl, refl, tt);
                      },
                    ),
                    (
                      (
                        connection 2 Rd 0 (OnHit S E) (says 1 (answer O true true false) ∷ []),
                        record {
                          present = refl;
                          connected = refl;
                          master = refl;
                          event = refl;
                          line = refl;
                          source = refl;
                          takers = refl;
                          states = refl;
                          done = refl;
                        },
                      ),
                      (
                        (
                          write 1 6,
                          record {
                            present = refl;
                            not_raised = refl;
                            not_granted = refl;
                            not_connected = refl;
                            needs = refl;
                          },
                        ),
                        (
                          record {
                            idle = refl;
                            by_raised = refl;
                            wins = record {
                              competes = refl;
                              number_highest = refl;
                              lines_settled = refl;
                              rounds_settled = refl;
                            };
                          },
                          (
                            (
                              write 1 6,
                              record {
                                present = refl;
                                granted = refl;
                                purpose = inl (record { line = refl; alternative = refl; room = λ h. cc });
                                answers = (refl, refl, tt);
                              },
                            ),
                            (
                              (
                                connection 2 Bwr 0 (OnHit O M) (says 1 (answer S true false true) ∷ []),
                                record {
                                  present = refl;
                                  connected = refl;
                                  master = refl;
                                  event = refl;
                                  line = refl;
                                  source = refl;
                                  takers = refl;
                                  states = refl;
                                  done = refl;
                                },
                              ),
                              (
                                (
                                  read 0,
                                  record {
                                    present = refl;
                                    not_raised = refl;
                                    not_granted = refl;
                                    not_connected = refl;
                                    needs = refl;
                                  },
                                ),
                                (
                                  record {
                                    idle = refl;
                                    by_raised = refl;
                                    wins = record {
                                      competes = refl;
                                      number_highest = refl;
                                      lines_settled = refl;
                                      rounds_settled = refl;
                                    };
                                  },
                                  (
                                    (
                                      read 0,
                                      record {
                                        present = refl;
                                        granted = refl;
                                        purpose = inl (record { line = refl; alternative = refl; room = λ h. cc });
                                        answers = (refl, refl, (refl, refl, tt));
                                      },
                                    ),
                                    (
                                      (
                                        connection 3 Urd 0 (Fixed I)
                                            (says 1 (answer S false false false) ∷ says 2 (answer O false true false)
                                            ∷ []),
                                        record {
                                          present = refl;
                                          connected = refl;
                                          master = refl;
                                          event = refl;
                                          line = refl;
                                          source = refl;
                                          takers = refl;
                                          states = refl;
                                          done = refl;
                                        },
                                      ),
                                      refl,
                                    ),
                                  ),
                                ),
                              ),
                            ),
                          ),
                        ),
                      ),
                    ),
                  ),
                ),
              ),
            ),
          ),
        ),
      );
    }

pub no_hit_plays : Plays no_hit no_hit_schedule no_hit_events no_hit_end
unfolding lines_after driven_below rounds_from
no_hit_plays =
    record {
      fits = WorkedSetups.no_hit_fits;
      accepted = WorkedSetups.no_hit_accepted;
      turns = refl;
      runs = (
        (read 4, record { present = refl; not_raised = refl; not_granted = refl; not_connected = refl; needs = refl }),
        (
          record {
            idle = refl;
            by_raised = refl;
            wins = record { competes = refl; number_highest = refl; lines_settled = refl; rounds_settled = refl };
          },
          (
            (
              read 4,
              record {
                present = refl;
                granted = refl;
                purpose = inl (record { line = refl; alternative = refl; room = λ h. cc });
                answers = tt;
              },
            ),
            (
              (
                connection 2 Rd 1 (OnHit S E) ([]),
                record {
                  present = refl;
                  connected = refl;
                  master = refl;
                  event = refl;
                  line = refl;
                  source = refl;
                  takers = refl;
                  states = refl;
                  done = refl;
                },
              ),
              (
                (
                  read 0,
                  record { present = refl; not_raised = refl; not_granted = refl; not_connected = refl; needs = refl },
                ),
                (
                  record {
                    idle = refl;
                    by_raised = refl;
                    wins =
                        record { competes = refl; number_highest = refl; lines_settled = refl; rounds_settled = refl };
                  },
                  (
                    (
                      read 0,
                      record {
                        present = refl;
                        granted = refl;
                        purpose = inl (record { line = refl; alternative = refl; room = λ h. cc });
                        answers = tt;
                      },
                    ),
                    (
                      (
                        connection 1 Rd 0 (Fixed S) ([]),
                        record {
                          present = refl;
                          connected = refl;
                          master = refl;
                          event = refl;
                          line = refl;
                          source = refl;
                          takers = refl;
                          states = refl;
                          done = refl;
                        },
                      ),
                      (
                        (
                          read 0,
                          record {
                            present = refl;
                            not_raised = refl;
                            not_granted = refl;
                            not_connected = refl;
                            needs = refl;
                          },
                        ),
                        (
                          record {
                            idle = refl;
                            by_raised = refl;
                            wins = record {
                              competes = refl;
                              number_highest = refl;
                              lines_settled = refl;
                              rounds_settled = refl;
                            };
                          },
                          (
                            (
                              read 0,
                              record {
                                present = refl;
                                granted = refl;
                                purpose = inl (record { line = refl; alternative = refl; room = λ h. cc });
                                answers = (refl, refl, tt);
                              },
                            ),
                            (
                              (
                                connection 2 Rd 0 (OnHit S E) (says 1 (answer I false false false) ∷ []),
                                record {
                                  present = refl;
                                  connected = refl;
                                  master = refl;
                                  event = refl;
                                  line = refl;
                                  source = refl;
                                  takers = refl;
                                  states = refl;
                                  done = refl;
                                },
                              ),
                              refl,
                            ),
                          ),
                        ),
                      ),
                    ),
                  ),
                ),
              ),
            ),
          ),
        ),
      );
    }

pub gap_plays : Plays gap gap_schedule gap_events gap_end
unfolding lines_after driven_below rounds_from
gap_plays =
    record {
      fits = WorkedSetups.gap_fits;
      accepted = WorkedSetups.gap_accepted;
      turns = refl;
      runs = (
        (read 0, record { present = refl; not_raised = refl; not_granted = refl; not_connected = refl; needs = refl }),
        (
          record {
            idle = refl;
            by_raised = refl;
            wins = record { competes = refl; number_highest = refl; lines_settled = refl; rounds_settled = refl };
          },
          (
            (
              read 0,
              record {
                present = refl;
                granted = refl;
                purpose = inl (record { line = refl; alternative = refl; room = λ h. cc });
                answers = tt;
              },
            ),
            (
              (
                connection 1 Rd 0 (OnHit S E) ([]),
                record {
                  present = refl;
                  connected = refl;
                  master = refl;
                  event = refl;
                  line = refl;
                  source = refl;
                  takers = refl;
                  states = refl;
                  done = refl;
                },
              ),
              (
                (
                  read 0,
                  record { present = refl; not_raised = refl; not_granted = refl; not_connected = refl; needs = refl },
                ),
                (
                  record {
                    idle = refl;
                    by_raised = refl;
                    wins =
                        record { competes = refl; number_highest = refl; lines_settled = refl; rounds_settled = refl };
                  },
                  (
                    (
                      read 0,
                      record {
                        present = refl;
                        granted = refl;
                        purpose = inl (record { line = refl; alternative = refl; room = λ h. cc });
                        answers = (refl, refl, tt);
                      },
                    ),
                    (
                      (
                        connection 2 Rd 0 (OnHit S E) (says 1 (answer S true false false) ∷ []),
                        record {
                          present = refl;
                          connected = refl;
                          master = refl;
                          event = refl;
                          line = refl;
                          source = refl;
                          takers = refl;
                          states = refl;
                          done = refl;
                        },
                      ),
                      (
                        (
                          write 0 9,
                          record {
                            present = refl;
                            not_raised = refl;
                            not_granted = refl;
                            not_connected = refl;
                            needs = refl;
                          },
                        ),
                        (
                          record {
                            idle = refl;
                            by_raised = refl;
                            wins = record {
                              competes = refl;
                              number_highest = refl;
                              lines_settled = refl;
                              rounds_settled = refl;
                            };
                          },
                          (
                            (
                              write 0 9,
                              record {
                                present = refl;
                                granted = refl;
                                purpose = inl (record { line = refl; alternative = refl; room = λ h. cc });
                                answers = (refl, refl, tt);
                              },
                            ),
                            (
                              (
                                connection 1 Inv 0 (Fixed M) (says 2 (answer I false false false) ∷ []),
                                record {
                                  present = refl;
                                  connected = refl;
                                  master = refl;
                                  event = refl;
                                  line = refl;
                                  source = refl;
                                  takers = refl;
                                  states = refl;
                                  done = refl;
                                },
                              ),
                              refl,
                            ),
                          ),
                        ),
                      ),
                    ),
                  ),
                ),
              ),
            ),
          ),
        ),
      );
    }

pub quiet_read_plays : Plays quiet_read quiet_read_schedule quiet_read_events quiet_read_end
unfolding lines_after driven_below rounds_from
quiet_read_plays =
    record {
      fits = WorkedSetups.quiet_read_fits;
      accepted = WorkedSetups.quiet_read_accepted;
      turns = refl;
      runs = (
        (read 0, record { present = refl; not_raised = refl; not_granted = refl; not_connected = refl; needs = refl }),
        (
          record {
            idle = refl;
            by_raised = refl;
            wins = record { competes = refl; number_highest = refl; lines_settled = refl; rounds_settled = refl };
          },
          (
            (
              read 0,
              record {
                present = refl;
                granted = refl;
                purpose = inl (record { line = refl; alternative = refl; room = λ h. cc });
                answers = tt;
              },
            ),
            (
              (
                connection 1 Rd 0 (OnHit S E) ([]),
                record {
                  present = refl;
                  connected = refl;
                  master = refl;
                  event = refl;
                  line = refl;
                  source = refl;
                  takers = refl;
                  states = refl;
                  done = refl;
                },
              ),
              (
                (
                  read 0,
                  record { present = refl; not_raised = refl; not_granted = refl; not_connected = refl; needs = refl },
                ),
                (
                  record {
                    idle = refl;
                    by_raised = refl;
                    wins =
                        record { competes = refl; number_highest = refl; lines_settled = refl; rounds_settled = refl };
                  },
                  (
                    (
                      read 0,
                      record {
                        present = refl;
                        granted = refl;
                        purpose = inl (record { line = refl; alternative = refl; room = λ h. cc });
                        answers = (refl, refl, tt);
                      },
                    ),
                    (
                      record {
                        present = refl;
                        not_connected = refl;
                        state = refl;
                        alternative = refl;
                        held = λ h. refl;
                        reply = refl;
                      },
                      (
                        (
                          connection 2 Rd 0 (OnHit S E) (says 1 (answer S true false false) ∷ []),
                          record {
                            present = refl;
                            connected = refl;
                            master = refl;
                            event = refl;
                            line = refl;
                            source = refl;
                            takers = refl;
                            states = refl;
                            done = refl;
                          },
                        ),
                        refl,
                      ),
                    ),
                  ),
                ),
              ),
            ),
          ),
        ),
      );
    }

-- ---- what is not a step

pub write_waits : turn gap between_phases 1 ≡ Waits (LineHeld 2 0)
unfolding lines_after driven_below rounds_from
write_waits = refl

pub memory_does_not_serve :
    (reply : Option ℕ)
    → Can intervention intervening (data_of 2 Urd 1 Memory no_takers ((2, I) ∷ (1, M) ∷ []) (Some (did (read 5) reply)))
    → ⊥
memory_does_not_serve reply (t, can) =
    let same : connection 2 Urd 1 (Fixed I) (says 1 (answer M false true false) ∷ []) ≡ t = cc in
    let source : Memory ≡ Board 1 = can.source ∙ ap (λ (x : Transaction). source_of x.event x.answers) (sym same) in
    cc

pub no_stale_reply :
    Can intervention intervening
    (data_of 2 Urd 1 (Board 1) no_takers ((2, I) ∷ (1, M) ∷ []) (Some (did (read 5) (Some 100)))) → ⊥
no_stale_reply (t, can) = grind arith
