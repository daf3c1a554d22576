mod Dividing
