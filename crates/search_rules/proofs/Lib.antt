mod Hope
