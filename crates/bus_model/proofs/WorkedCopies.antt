-- The small runs in which a clean victim is dropped, a line is passed, a word is captured and an owner invalidates the
-- other copies, computed event by event.
use Rattle.std.proofs.Common.{true, false, [], ◌∷◌, refl, inl}
use Rattle.bus_signals.specs.declared.BusEvent.TheVariants.{Rd, Rfo, Inv, Bwr, Ubw, Pas}
use Rattle.moesi_state.specs.declared.State.TheVariants.{M, O, E, S, I}
use Rattle.moesi_state.specs.declared.Outcome.TheVariants.{Fixed, OnHit}
use Rattle.class_relation.specs.Actions.{answer}
use Rattle.bus_model.specs.Settling.{lines_after, driven_below, rounds_from}
use Rattle.bus_model.specs.WorkedWords.{read, write, pass, connection, says}
use Rattle.bus_model.specs.WorkedRuns.{Plays}
use Rattle.bus_model.specs.WorkedCopies.{clean_victim, clean_victim_schedule, clean_victim_events, clean_victim_end, captured, captured_schedule, captured_events, captured_end}
use Rattle.bus_model.proofs.WorkedSetups

pub clean_victim_plays : Plays clean_victim clean_victim_schedule clean_victim_events clean_victim_end
unfolding lines_after driven_below rounds_from
clean_victim_plays =
    record {
      fits = WorkedSetups.clean_victim_fits;
      accepted = WorkedSetups.clean_victim_accepted;
      turns = refl;
      runs = (
        (read 0, record { present = refl; not_raised = refl; not_granted = refl; not_connected = refl; needs = refl }),
        (
          record {
            idle = refl;
            by_raised = refl;
            wins = record { competes = refl; number_highest = refl; lines_settled = refl; rounds_settled = refl };
          },
          (
            (
              read 0,
              record {
                present = refl;
                granted = refl;
                purpose = inl (record { line = refl; alternative = refl; room = λ h. cc });
                answers = tt;
              },
            ),
            (
              (
                connection 1 Rd 0 (OnHit S E) ([]),
                record {
                  present = refl;
                  connected = refl;
                  master = refl;
                  event = refl;
                  line = refl;
                  source = refl;
                  takers = refl;
                  states = refl;
                  done = refl;
                },
              ),
              (
                (
                  read 4,
                  record {
                    present = refl;
                    not_connected = refl;
                    wants = refl;
                    victim = refl;
                    clean = refl;
                    not_held = refl;
                  },
                ),
                (
                  (
                    read 4,
                    record {
                      present = refl;
                      not_raised = refl;
                      not_granted = refl;
                      not_connected = refl;
                      needs = refl;
                    },
                  ),
                  (
                    record {
                      idle = refl;
                      by_raised = refl;
                      wins =
                          record {
                            competes = refl;
                            number_highest = refl;
                            lines_settled = refl;
                            rounds_settled = refl;
                          };
                    },
                    (
                      (
                        read 4,
                        record {
                          present = refl;
                          granted = refl;
                          purpose = inl (record { line = refl; alternative = refl; room = λ h. cc });
                          answers = tt;
                        },
                      ),
                      (
                        (
                          connection 1 Rd 1 (OnHit S E) ([]),
                          record {
                            present = refl;
                            connected = refl;
                            master = refl;
                            event = refl;
                            line = refl;
                            source = refl;
                            takers = refl;
                            states = refl;
                            done = refl;
                          },
                        ),
                        (
                          record {
                            present = refl;
                            not_connected = refl;
                            state = refl;
                            alternative = refl;
                            held = λ h. cc;
                            reply = refl;
                          },
                          (
                            (
                              pass 4,
                              record {
                                present = refl;
                                not_raised = refl;
                                not_granted = refl;
                                not_connected = refl;
                                needs = refl;
                              },
                            ),
                            (
                              record {
                                idle = refl;
                                by_raised = refl;
                                wins = record {
                                  competes = refl;
                                  number_highest = refl;
                                  lines_settled = refl;
                                  rounds_settled = refl;
                                };
                              },
                              (
                                (
                                  pass 4,
                                  record {
                                    present = refl;
                                    granted = refl;
                                    purpose = inl (record { line = refl; alternative = refl; room = λ h. cc });
                                    answers = tt;
                                  },
                                ),
                                (
                                  (
                                    connection 1 Pas 1 (Fixed E) ([]),
                                    record {
                                      present = refl;
                                      connected = refl;
                                      master = refl;
                                      event = refl;
                                      line = refl;
                                      source = refl;
                                      takers = refl;
                                      states = refl;
                                      done = refl;
                                    },
                                  ),
                                  refl,
                                ),
                              ),
                            ),
                          ),
                        ),
                      ),
                    ),
                  ),
                ),
              ),
            ),
          ),
        ),
      );
    }

pub captured_plays : Plays captured captured_schedule captured_events captured_end
unfolding lines_after driven_below rounds_from
captured_plays =
    record {
      fits = WorkedSetups.captured_fits;
      accepted = WorkedSetups.captured_accepted;
      turns = refl;
      runs = (
        (
          write 0 5,
          record { present = refl; not_raised = refl; not_granted = refl; not_connected = refl; needs = refl },
        ),
        (
          record {
            idle = refl;
            by_raised = refl;
            wins = record { competes = refl; number_highest = refl; lines_settled = refl; rounds_settled = refl };
          },
          (
            (
              write 0 5,
              record {
                present = refl;
                granted = refl;
                purpose = inl (record { line = refl; alternative = refl; room = λ h. cc });
                answers = tt;
              },
            ),
            (
              (
                connection 1 Rfo 0 (Fixed M) ([]),
                record {
                  present = refl;
                  connected = refl;
                  master = refl;
                  event = refl;
                  line = refl;
                  source = refl;
                  takers = refl;
                  states = refl;
                  done = refl;
                },
              ),
              (
                (
                  read 0,
                  record { present = refl; not_raised = refl; not_granted = refl; not_connected = refl; needs = refl },
                ),
                (
                  record {
                    idle = refl;
                    by_raised = refl;
                    wins =
                        record { competes = refl; number_highest = refl; lines_settled = refl; rounds_settled = refl };
                  },
                  (
                    (
                      read 0,
                      record {
                        present = refl;
                        granted = refl;
                        purpose = inl (record { line = refl; alternative = refl; room = λ h. cc });
                        answers = (refl, refl, tt);
                      },
                    ),
                    (
                      (
                        connection 2 Rd 0 (OnHit S E) (says 1 (answer O true true false) ∷ []),
                        record {
                          present = refl;
                          connected = refl;
                          master = refl;
                          event = refl;
                          line = refl;
                          source = refl;
                          takers = refl;
                          states = refl;
                          done = refl;
                        },
                      ),
                      (
                        (
                          write 1 8,
                          record {
                            present = refl;
                            not_raised = refl;
                            not_granted = refl;
                            not_connected = refl;
                            needs = refl;
                          },
                        ),
                        (
                          record {
                            idle = refl;
                            by_raised = refl;
                            wins = record {
                              competes = refl;
                              number_highest = refl;
                              lines_settled = refl;
                              rounds_settled = refl;
                            };
                          },
                          (
                            (
                              write 1 8,
                              record {
                                present = refl;
                                granted = refl;
                                purpose = inl (record { line = refl; alternative = refl; room = λ h. cc });
                                answers = (refl, refl, (refl, refl, tt));
                              },
                            ),
                            (
                              (
                                connection 3 Ubw 0 (Fixed I)
                                    (says 1 (answer O false false true) ∷ says 2 (answer S false false true) ∷ []),
                                record {
                                  present = refl;
                                  connected = refl;
                                  master = refl;
                                  event = refl;
                                  line = refl;
                                  source = refl;
                                  takers = refl;
                                  states = refl;
                                  done = refl;
                                },
                              ),
                              (
                                (
                                  write 2 9,
                                  record {
                                    present = refl;
                                    not_raised = refl;
                                    not_granted = refl;
                                    not_connected = refl;
                                    needs = refl;
                                  },
                                ),
                                (
                                  record {
                                    idle = refl;
                                    by_raised = refl;
                                    wins = record {
                                      competes = refl;
                                      number_highest = refl;
                                      lines_settled = refl;
                                      rounds_settled = refl;
                                    };
                                  },
                                  (
                                    (
                                      write 2 9,
                                      record {
                                        present = refl;
                                        granted = refl;
                                        purpose = inl (record { line = refl; alternative = refl; room = λ h. cc });
                                        answers = (refl, refl, tt);
                                      },
                                    ),
                                    (
                                      (
                                        connection 2 Bwr 0 (Fixed O) (says 1 (answer S true false true) ∷ []),
                                        record {
                                          present = refl;
                                          connected = refl;
                                          master = refl;
                                          event = refl;
                                          line = refl;
                                          source = refl;
                                          takers = refl;
                                          states = refl;
                                          done = refl;
                                        },
                                      ),
                                      (
                                        (
                                          write 0 6,
                                          record {
                                            present = refl;
                                            not_raised = refl;
                                            not_granted = refl;
                                            not_connected = refl;
                                            needs = refl;
                                          },
                                        ),
                                        (
                                          record {
                                            idle = refl;
                                            by_raised = refl;
                                            wins = record {
                                              competes = refl;
                                              number_highest = refl;
                                              lines_settled = refl;
                                              rounds_settled = refl;
                                            };
                                          },
                                          (
                                            (
                                              write 0 6,
                                              record {
                                                present = refl;
                                                granted = refl;
                                                purpose = inl
                                                    (record { line = refl; alternative = refl; room = λ h. cc });
                                                answers = (refl, refl, tt);
                                              },
                                            ),
                                            (
                                              (
                                                connection 2 Inv 0 (Fixed M) (says 1 (answer I false false false) ∷ []),
                                                record {
                                                  present = refl;
                                                  connected = refl;
                                                  master = refl;
                                                  event = refl;
                                                  line = refl;
                                                  source = refl;
                                                  takers = refl;
                                                  states = refl;
                                                  done = refl;
                                                },
                                              ),
                                              refl,
                                            ),
                                          ),
                                        ),
                                      ),
                                    ),
                                  ),
                                ),
                              ),
                            ),
                          ),
                        ),
                      ),
                    ),
                  ),
                ),
              ),
            ),
          ),
        ),
      );
    }
